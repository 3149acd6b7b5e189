use Rattle.commit_core.proofs.Holding.{held_history}
use Rattle.commit_core.proofs.law.held_history_law.Goals as goal

pub returns : goal.returns
returns c = held_history
