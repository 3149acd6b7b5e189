use Rattle.std.proofs.Common.{sym, ◌∙◌, arith}
use Rattle.place_board.proofs.Asking.{enlist_asked}
use Rattle.place_board.proofs.board.PlaceBoard.enlist.Goals as goal

pub load-requires : goal.load-requires
load-requires c =
    let words = c.self.invariant in
    let n = c.requires.fresh in
    (c.requires.board ∙ sym c.self.view_is, omega (arith, n.1), enlist_asked _ _ _ c.args.number c.requires.seat.0 c.requires.seat.1 n.0)
