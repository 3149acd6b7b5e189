use Rattle.std.proofs.Common.{map, ap, sym, ◌∙◌}
use Rattle.std.specs.Map.Iter.{deref}
use Rattle.std.proofs.lemmas.Map.Iter.{iter_end}
use Rattle.std.proofs.lemmas.Simd.{map-map}
use Rattle.bgp_model.specs.Order.{assignment_cmp, assignment_total}
use Rattle.bgp_model.specs.Solutions.{row_of}
use Rattle.bgp_model.proofs.Exact.{distinct_from_sorted}
use Rattle.bgp_model.proofs.rows.selected_rows.Goals as goal

pub returns-clause-distinct : goal.returns-clause-distinct
returns-clause-distinct c = distinct_from_sorted assignment_cmp assignment_total _ c.into_iter-assignment-iterator.ensures.into_iter_gives.4

pub returns-clause-rows : goal.returns-clause-rows
returns-clause-rows c =
    let all = iter_end deref c.args.found.now.keys c.rows.yielded _ c.rows.assignment-iterator _ c.next.result c.into_iter-assignment-iterator.ensures.into_iter_gives.0 c.rows.yielded_by c.in-None.is c.next.ensures.steps in
    c.rows.invariant ∙ sym (map-map (row_of c.args.query.now) deref c.rows.yielded) ∙ ap (map (row_of c.args.query.now)) all.0
