use Rattle.std.proofs.Common.{sym, subst}
use Rattle.std.specs.List.{AllByRecursion}
use Rattle.term_core.specs.Term.{IsTerm}
use Rattle.bgp_model.proofs.Placed.{all_pushed}
use Rattle.bgp_model.proofs.tests_table.terms.Goals as goal

pub terms-preserved : goal.terms-preserved
terms-preserved g c =
    subst (AllByRecursion IsTerm) (sym c.in_ok-push.ensures.items)
    (all_pushed IsTerm c.terms.made.items c.in_ok-term.term c.terms.invariant c.in_ok-term.ensures.found.0)
