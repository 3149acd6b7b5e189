use Rattle.std.proofs.Common.{◌+◌, length}
use Rattle.window_merge.proofs.Merges.{IsMergingOf}
use Rattle.window_merge.proofs.merge.merge.Given as goal

-- the rows so far were taken from both, and what is left completes them
abbrev pub invariant-rows : goal.invariant-rows
invariant-rows l = IsMergingOf l.initial.older.items l.initial.newer.items l.older.items l.newer.items l.rows.items

abbrev pub decreases-rows : goal.decreases-rows
decreases-rows l = length l.older.items + length l.newer.items
