use Rattle.body_codec.proofs.BodySizes.{body_size}
use Rattle.body_codec.proofs.law.body_size_law.Goals as goal

pub returns : goal.returns
returns c = body_size
