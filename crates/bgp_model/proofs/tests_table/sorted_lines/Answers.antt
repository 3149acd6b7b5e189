use Rattle.std.proofs.Common.{List, sym, subst}
use Rattle.bgp_model.specs.declared.solution.Solution.{Solution}
use Rattle.bgp_model.specs.Table.{HasTerms}
use Rattle.bgp_model.proofs.Placed.{terms_kept}
use Rattle.bgp_model.proofs.tests_table.sorted_lines.Goals as goal

pub in_order-requires : goal.in_order-requires
in_order-requires g c =
    subst HasTerms (sym c.in_ok-of.ensures) (terms_kept c.in_ok-terms.terms.items c.args.columns c.args.count c.in_ok-places.places.items c.in_ok-terms.ensures)
