use Rattle.std.proofs.Common.{◌-◌, length}
use Rattle.window_merge.proofs.Counting.{AreCounted}
use Rattle.window_merge.proofs.cut.count_of_keys.Given as goal

-- so many keys were seen, and so many may still begin
abbrev pub invariant-rows : goal.invariant-rows
invariant-rows l = AreCounted l.rows l.most l.left l.count

abbrev pub decreases-rows : goal.decreases-rows
decreases-rows l = length l.rows - l.count
