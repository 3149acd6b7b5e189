use Rattle.std.proofs.Common.{◌-◌}
use Rattle.window_merge.proofs.Ends.{IsHalvedAt}
use Rattle.window_merge.proofs.cut.count_before.Given as goal

-- the rows below stand before the key, and those above don't
abbrev pub invariant-halves : goal.invariant-halves
invariant-halves l = IsHalvedAt l.rows l.key l.low l.high

abbrev pub decreases-halves : goal.decreases-halves
decreases-halves l = l.high - l.low
