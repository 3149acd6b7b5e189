use Rattle.shard_core.proofs.Keeping.{kept_floor_law}
use Rattle.shard_core.proofs.law.kept_floor_law.Goals as goal

pub returns : goal.returns
returns c = kept_floor_law
