use Rattle.window_core.proofs.Choosing.{ArePassedUpTo}
use Rattle.window_core.proofs.runs.first_of_each.Given as goal

abbrev pub invariant-runs : goal.invariant-runs
invariant-runs l = ArePassedUpTo l.runs l.key l.time l.run-index l.passed.items
