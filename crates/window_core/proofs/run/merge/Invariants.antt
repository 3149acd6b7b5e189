use Rattle.std.proofs.Common.{◌+◌, ◌-◌, length}
use Rattle.window_core.proofs.Merging.{IsMerging}
use Rattle.window_core.proofs.run.merge.Given as goal

-- the rows before both indexes are merged
abbrev pub invariant-rows : goal.invariant-rows
invariant-rows l = IsMerging l.older l.newer l.from_older l.from_newer l.run

abbrev pub decreases-rows : goal.decreases-rows
decreases-rows l = (length l.older - l.from_older) + (length l.newer - l.from_newer)
