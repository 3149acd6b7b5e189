use Rattle.commit_core.proofs.Holding.{named_are_held}
use Rattle.commit_core.proofs.law.named_held_law.Goals as goal

pub returns : goal.returns
returns c = named_are_held
