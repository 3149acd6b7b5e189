use Rattle.std.proofs.Common.{◌≡◌, map}
use Rattle.bgp_model.proofs.rows.with_lines.Given as goal

abbrev pub invariant-rows : goal.invariant-rows
invariant-rows l = map (λ p. p.row) l.made.items ≡ l.yielded
