use Rattle.history_board.proofs.Keeping.{begins}
use Rattle.history_board.proofs.keeper.make.Goals as goal

pub of_words-requires : goal.of_words-requires
of_words-requires g c = begins g.E.Made.session_of g.E.Made.command_of
