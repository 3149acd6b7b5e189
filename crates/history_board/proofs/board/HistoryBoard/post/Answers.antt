use Rattle.std.proofs.Common.{sym, ◌∙◌, arith}
use Rattle.history_board.proofs.Asking.{post_asked}
use Rattle.history_board.proofs.board.HistoryBoard.post.Goals as goal

pub swap-requires : goal.swap-requires
swap-requires g c =
    let words = c.self.invariant in
    (c.requires.board ∙ sym c.self.view_is, omega arith, post_asked g.E.Made.session_of g.E.Made.command_of _ _ _ c.args.count c.requires.seat.0 c.requires.seat.1 c.requires.rises)
