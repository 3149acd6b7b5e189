use Rattle.std.proofs.Common.{sym, ◌∙◌, arith}
use Rattle.place_board.proofs.Asking.{release_asked}
use Rattle.place_board.proofs.board.PlaceBoard.release.Goals as goal

pub split_seat-requires : goal.split_seat-requires
split_seat-requires g c =
    let words = c.self.invariant in
    (c.requires.board ∙ sym c.self.view_is, omega arith, release_asked _ _ c.args.number _ c.requires.told c.requires.seat c.requires.fresh)
