use Rattle.std.proofs.Common.{sym, ◌∙◌, arith}
use Rattle.history_board.proofs.Asking.{release_asked}
use Rattle.history_board.proofs.board.HistoryBoard.take_pin.Goals as goal

pub join_seat-requires : goal.join_seat-requires
join_seat-requires g c =
    let words = c.self.invariant in
    let here = c.self.view_is in
    (c.requires.boards.0 ∙ sym here, c.requires.boards.1 ∙ sym here, c.requires.pin.0, omega arith, release_asked g.E.Made.session_of g.E.Made.command_of _ _ _ _ c.requires.seat c.requires.pin.1)
