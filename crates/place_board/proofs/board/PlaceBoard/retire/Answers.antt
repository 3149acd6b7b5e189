use Rattle.std.proofs.Common.{sym, ◌∙◌, arith}
use Rattle.place_board.proofs.Asking.{retire_asked}
use Rattle.place_board.proofs.board.PlaceBoard.retire.Goals as goal

pub store-requires : goal.store-requires
store-requires c =
    let words = c.self.invariant in
    let n = c.requires.listed in
    (c.requires.board ∙ sym c.self.view_is, omega (arith, n.1), retire_asked _ _ _ c.args.number c.requires.seat.0 c.requires.seat.1 n.0)
