use Rattle.std.proofs.Common.{arith}
use Rattle.std.proofs.lemmas.Str.Pattern.{ends_char}
use Rattle.term_core.proofs.Labels.{dot_decides}
use Rattle.term_core.proofs.parts.ends_label.Goals as goal

pub returns : goal.returns
returns c =
    dot_decides c.args.rest.now c.ends_with.result c.utf8.rest (ends_char 46 c.args.rest.now c.ends_with.result c.ends_with.ensures.cases (omega arith))
