use Rattle.std.proofs.Common.{◌-◌}
use Rattle.window_core.proofs.Searching.{IsHalved}
use Rattle.window_core.proofs.run.first_from.Given as goal

abbrev pub invariant-halves : goal.invariant-halves
invariant-halves l = IsHalved l.run l.key l.time l.low l.high

abbrev pub decreases-halves : goal.decreases-halves
decreases-halves l = l.high - l.low
