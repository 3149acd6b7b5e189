use Rattle.std.proofs.Common.{◌≡◌, map}
use Rattle.bgp_model.specs.Solutions.{row_of}
use Rattle.bgp_model.proofs.rows.selected_rows.Given as goal

abbrev pub invariant-rows : goal.invariant-rows
invariant-rows l = l.rows.items ≡ map (λ assignment. row_of l.query assignment.now) l.yielded
