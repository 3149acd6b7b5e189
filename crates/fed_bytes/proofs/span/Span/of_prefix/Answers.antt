use Rattle.std.proofs.Common.{◌∙◌}
use Rattle.fed_bytes.proofs.Prefixes.{prefix_span, prefix_own}
use Rattle.fed_bytes.proofs.span.Span.of_prefix.Goals as goal

pub returns-clause-keys : goal.returns-clause-keys
returns-clause-keys c key bytes = prefix_span c.args.prefix.now _ _ c.in_ok-left.ensures (c.in_ok-right.ensures ∙ c.without_last_ff.ensures.same) key bytes

pub returns-clause-own : goal.returns-clause-own
returns-clause-own c = prefix_own c.args.prefix.now _ _ c.in_ok-left.ensures (c.in_ok-right.ensures ∙ c.without_last_ff.ensures.same)
