use Rattle.std.proofs.Common.{sym, ◌∙◌, arith}
use Rattle.history_board.proofs.Asking.{commit_asked}
use Rattle.history_board.proofs.board.HistoryBoard.append.Goals as goal

pub fetch_add-requires : goal.fetch_add-requires
fetch_add-requires g c =
    let words = c.self.invariant in
    (c.requires.board ∙ sym c.self.view_is, omega arith, commit_asked g.E.Made.session_of g.E.Made.command_of _ c.args.self.now _ _ g.B.Told.entries c.args.entry.now c.requires.told c.requires.seat.0 c.requires.seat.1 c.requires.room c.requires.may)

pub returns-clause-commits : goal.returns-clause-commits
returns-clause-commits g c = λ e is. c.fetch_add.ensures.2 e (c.requires.told ∙ is)
