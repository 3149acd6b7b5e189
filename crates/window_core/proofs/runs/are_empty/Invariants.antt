use Rattle.std.proofs.Common.{◌≡◌, [], take}
use Rattle.window_core.specs.Runs.{all_of}
use Rattle.window_core.proofs.runs.are_empty.Given as goal

-- the runs so far have no rows
abbrev pub invariant-runs : goal.invariant-runs
invariant-runs l = all_of (take l.run-index l.runs) ≡ []
