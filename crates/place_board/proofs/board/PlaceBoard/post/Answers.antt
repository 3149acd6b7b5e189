use Rattle.std.proofs.Common.{sym, ◌∙◌, ap, arith}
use Rattle.place_board.specs.Words.{count_word}
use Rattle.place_board.proofs.Asking.{post_asked}
use Rattle.place_board.proofs.board.PlaceBoard.post.Goals as goal

pub swap-requires : goal.swap-requires
swap-requires c =
    let words = c.self.invariant in
    let s = c.requires.service in
    let i = c.count_place.ensures in
    (c.requires.board ∙ sym c.self.view_is, omega (arith, i, s.1), post_asked _ _ _ _ c.args.count c.requires.seat.0 c.requires.seat.1 (i ∙ ap count_word s.0) c.requires.rises)
