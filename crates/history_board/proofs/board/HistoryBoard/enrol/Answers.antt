use Rattle.std.proofs.Common.{sym, ◌∙◌, arith}
use Rattle.history_board.proofs.Asking.{enrol_asked}
use Rattle.history_board.proofs.board.HistoryBoard.enrol.Goals as goal

pub split_seat-requires : goal.split_seat-requires
split_seat-requires g c =
    let words = c.self.invariant in
    (c.requires.board ∙ sym c.self.view_is, omega arith, enrol_asked g.E.Made.session_of g.E.Made.command_of _ _ c.args.session _ c.requires.told c.requires.seat c.requires.from_one c.requires.may)
