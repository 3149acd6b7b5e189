use Rattle.window_core.specs.Runs.{IsLeast}
use Rattle.window_core.proofs.runs.least.Given as goal

-- of the runs so far the one with the first row is found
abbrev pub invariant-runs : goal.invariant-runs
invariant-runs l = IsLeast l.runs l.passed l.next l.found
