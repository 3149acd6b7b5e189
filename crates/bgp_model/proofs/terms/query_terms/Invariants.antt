use Rattle.std.proofs.Common.{take}
use Rattle.std.specs.List.{flat_map}
use Rattle.bgp_model.specs.GatheredTerms.{fixed_in_pattern, IsGathered}
use Rattle.bgp_model.proofs.terms.query_terms.Given as goal

abbrev pub invariant-patterns : goal.invariant-patterns
invariant-patterns l = IsGathered (flat_map fixed_in_pattern (take l.pattern-index l.query.patterns)) l.terms.items l.seen.keys
