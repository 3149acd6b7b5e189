use Rattle.term_core.proofs.Tags.{IsUtf8-tag}
use Rattle.term_core.proofs.decode.tag_in.Goals as goal

pub returns-in_default : goal.returns-in_default
returns-in_default c = λ h. c.in_default.ensures.cases.0 (IsUtf8-tag c.args.bytes.now h)
