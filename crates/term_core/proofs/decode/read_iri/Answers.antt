use Rattle.term_core.proofs.BadFields.{iri_is_bad}
use Rattle.term_core.proofs.decode.read_iri.Goals as goal

pub returns-in_default : goal.returns-in_default
returns-in_default c = iri_is_bad c.args.fields.now c.in_default.ensures
