use Rattle.std.specs.List.{AllByRecursion}
use Rattle.term_core.specs.Term.{IsTerm}
use Rattle.bgp_model.proofs.tests_table.terms.Given as goal

abbrev pub invariant-terms : goal.invariant-terms
invariant-terms g l = AllByRecursion IsTerm l.made.items
