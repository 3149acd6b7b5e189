use Rattle.shard_core.proofs.Keeping.{kept_history_law}
use Rattle.shard_core.proofs.law.kept_history_law.Goals as goal

pub returns : goal.returns
returns c = kept_history_law
