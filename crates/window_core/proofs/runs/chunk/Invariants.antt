use Rattle.window_core.proofs.Choosing.{left_count}
use Rattle.window_core.proofs.Gathering.{IsGathered}
use Rattle.window_core.proofs.runs.chunk.Given as goal

-- the rows so far are the first of those from the key on
abbrev pub invariant-rows : goal.invariant-rows
invariant-rows l = IsGathered l.runs l.key l.rows.items l.passed.items l.left l.most

abbrev pub decreases-rows : goal.decreases-rows
decreases-rows l = left_count l.runs l.passed.items
