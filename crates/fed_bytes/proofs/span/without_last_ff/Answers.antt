use Rattle.std.proofs.Common.{Some, None, ap, sym, ◌∙◌}
use Rattle.fed_bytes.specs.Ends.{end_of}
use Rattle.fed_bytes.proofs.Prefixes.{end_of-ff, ff_stripped}
use Rattle.fed_bytes.proofs.span.without_last_ff.Goals as goal

pub ends-preserved : goal.ends-preserved
ends-preserved c =
    sym (ap end_of (ff_stripped c.ends.rest.now (Some c.in-Some.front) c.in-Some.ensures.cases) ∙ end_of-ff c.in-Some.front.now) ∙ c.ends.invariant

pub returns-clause-below : goal.returns-clause-below
returns-clause-below c = ff_stripped c.ends.rest.now None c.in_default.ensures.cases
