use Rattle.std.proofs.Common.{◌≡◌, map, take}
use Rattle.bgp_model.specs.Solutions.{value_at}
use Rattle.bgp_model.proofs.rows.row_of.Given as goal

abbrev pub invariant-columns : goal.invariant-columns
invariant-columns l = l.cells.items ≡ map (value_at l.assignment) (take l.column-index l.query.columns)
