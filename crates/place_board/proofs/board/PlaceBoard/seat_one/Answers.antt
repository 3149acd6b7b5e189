use Rattle.std.proofs.Common.{sym, ◌∙◌, arith}
use Rattle.place_board.proofs.Asking.{seat_asked}
use Rattle.place_board.proofs.board.PlaceBoard.seat_one.Goals as goal

pub split_seat-requires : goal.split_seat-requires
split_seat-requires c =
    let words = c.self.invariant in
    (c.requires.board ∙ sym c.self.view_is, omega arith, seat_asked _ _ c.requires.seat c.requires.room)
