use Rattle.std.proofs.Common.{sym, ◌∙◌, arith}
use Rattle.place_board.proofs.Asking.{tell_asked}
use Rattle.place_board.proofs.board.PlaceBoard.tell.Goals as goal

pub split_seat-requires : goal.split_seat-requires
split_seat-requires c =
    let words = c.self.invariant in
    (c.requires.board ∙ sym c.self.view_is, omega arith, tell_asked _ _ c.requires.seat)
