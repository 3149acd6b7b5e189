use Rattle.std.proofs.Common.{◌≡◌, map}
use Rattle.bgp_model.proofs.rows.without_lines.Given as goal

abbrev pub invariant-rows : goal.invariant-rows
invariant-rows l = l.rows.items ≡ map (λ p. p.row) l.yielded
