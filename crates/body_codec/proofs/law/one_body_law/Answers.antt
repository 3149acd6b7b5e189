use Rattle.body_codec.proofs.Changes.{one_body}
use Rattle.body_codec.proofs.law.one_body_law.Goals as goal

pub returns : goal.returns
returns c = one_body
