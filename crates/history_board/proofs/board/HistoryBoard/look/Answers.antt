use Rattle.std.proofs.Common.{sym, ◌∙◌, arith}
use Rattle.history_board.proofs.Asking.{look_asked}
use Rattle.history_board.proofs.board.HistoryBoard.look.Goals as goal

pub load-requires : goal.load-requires
load-requires g c =
    let words = c.self.invariant in
    (c.requires.board ∙ sym c.self.view_is, omega arith, look_asked g.E.Made.session_of g.E.Made.command_of _ _ _ c.requires.seat.0 c.requires.seat.1)
