use Rattle.window_core.proofs.Joining.{IsJoined}
use Rattle.window_core.proofs.runs.put_run.Given as goal

-- the runs from `kept` on are in the new one
abbrev pub invariant-runs : goal.invariant-runs
invariant-runs l = IsJoined l.runs.items l.initial.run l.kept l.run

abbrev pub decreases-runs : goal.decreases-runs
decreases-runs l = l.kept
