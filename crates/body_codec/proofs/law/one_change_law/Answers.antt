use Rattle.body_codec.proofs.Refusals.{one_change}
use Rattle.body_codec.proofs.law.one_change_law.Goals as goal

pub returns : goal.returns
returns c = one_change
