use Rattle.std.proofs.Common.{sym, ◌∙◌, arith}
use Rattle.place_board.proofs.Asking.{join_asked}
use Rattle.place_board.proofs.board.PlaceBoard.join.Goals as goal

pub join_seat-requires : goal.join_seat-requires
join_seat-requires c =
    let words = c.self.invariant in
    let here = c.self.view_is in
    (c.requires.boards.0 ∙ sym here, c.requires.boards.1 ∙ sym here, c.requires.other.0, omega arith, join_asked _ _ _ _ c.requires.seat c.requires.other.1)
