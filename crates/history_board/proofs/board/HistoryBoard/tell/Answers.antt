use Rattle.std.proofs.Common.{sym, ◌∙◌, arith}
use Rattle.history_board.proofs.Asking.{tell_asked}
use Rattle.history_board.proofs.board.HistoryBoard.tell.Goals as goal

pub split_seat-requires : goal.split_seat-requires
split_seat-requires g c =
    let words = c.self.invariant in
    (c.requires.board ∙ sym c.self.view_is, omega arith, tell_asked g.E.Made.session_of g.E.Made.command_of _ _ c.requires.seat)
