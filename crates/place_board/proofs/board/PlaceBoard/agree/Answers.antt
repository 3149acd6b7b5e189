use Rattle.std.proofs.Common.{sym, ◌∙◌, arith}
use Rattle.place_board.proofs.Asking.{agree_asked}
use Rattle.place_board.proofs.board.PlaceBoard.agree.Goals as goal

pub load-requires : goal.load-requires
load-requires c =
    let words = c.self.invariant in
    (c.requires.board ∙ sym c.self.view_is, omega arith, agree_asked _ _ _ c.requires.seat.0 c.requires.seat.1)
