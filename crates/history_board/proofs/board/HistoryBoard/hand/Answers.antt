use Rattle.std.proofs.Common.{sym, ◌∙◌, arith}
use Rattle.history_board.proofs.Asking.{hand_asked}
use Rattle.history_board.proofs.board.HistoryBoard.hand.Goals as goal

pub split_seat-requires : goal.split_seat-requires
split_seat-requires g c =
    let words = c.self.invariant in
    (c.requires.board ∙ sym c.self.view_is, omega arith, hand_asked g.E.Made.session_of g.E.Made.command_of _ _ c.args.session _ _ _ c.requires.told.0 c.requires.told.1 c.requires.seat c.requires.bears c.requires.entry)
