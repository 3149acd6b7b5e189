-- Private: what the functions keep that gather a query's terms.
use Rattle.std.specs.Prelude.{◌≡◌, List, ◌++◌, ◌↔◌}
use Rattle.term_core.specs.declared.term.Term.{Term}
use Rattle.base_core.specs.Lists.{Has}
use Rattle.bgp_model.specs.declared.query.Pattern.{Pattern}
use Rattle.bgp_model.specs.QueryTerms.{fixed_in, firsts}

abbrev pub fixed_in_pattern : Pattern → List Term
fixed_in_pattern pattern = fixed_in pattern.subject ++ (fixed_in pattern.predicate ++ fixed_in pattern.object)

-- the terms are those gone through, each where it first stood, and the set has the same
pub record IsGathered (before terms seen : List Term) : Type 0 where
  pub order : terms ≡ firsts before
  pub members : (term : Term) → Has seen term ↔ Has before term
