use Rattle.std.proofs.Common.{◌≤◌, length}
use Rattle.window_core.proofs.Searching.{LackFrom}
use Rattle.window_core.proofs.runs.last.Given as goal

-- the runs from here on have no row of the key
abbrev pub invariant-runs : goal.invariant-runs
invariant-runs l = (l.left ≤ length l.runs) × LackFrom l.runs l.key l.time l.left

abbrev pub decreases-runs : goal.decreases-runs
decreases-runs l = l.left
