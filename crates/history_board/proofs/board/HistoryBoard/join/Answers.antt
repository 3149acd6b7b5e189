use Rattle.std.proofs.Common.{sym, ◌∙◌, arith}
use Rattle.history_board.proofs.Asking.{join_asked}
use Rattle.history_board.proofs.board.HistoryBoard.join.Goals as goal

pub join_seat-requires : goal.join_seat-requires
join_seat-requires g c =
    let words = c.self.invariant in
    let here = c.self.view_is in
    (c.requires.boards.0 ∙ sym here, c.requires.boards.1 ∙ sym here, c.requires.other.0, omega arith, join_asked g.E.Made.session_of g.E.Made.command_of _ _ _ _ c.requires.seat c.requires.other.1 c.requires.free)
