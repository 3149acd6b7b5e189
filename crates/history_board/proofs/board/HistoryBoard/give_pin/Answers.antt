use Rattle.std.proofs.Common.{sym, ◌∙◌, arith}
use Rattle.history_board.proofs.Asking.{pin_asked}
use Rattle.history_board.proofs.board.HistoryBoard.give_pin.Goals as goal

pub split_seat-requires : goal.split_seat-requires
split_seat-requires g c =
    let words = c.self.invariant in
    let within = c.requires.within in
    (c.requires.board ∙ sym c.self.view_is, omega arith, pin_asked g.E.Made.session_of g.E.Made.command_of _ _ c.args.number c.args.time _ _ c.requires.told.0 c.requires.told.1 c.requires.seat c.requires.free within.0 within.1)
