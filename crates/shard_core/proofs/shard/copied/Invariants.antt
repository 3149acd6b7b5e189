use Rattle.std.proofs.Common.{◌≡◌, take}
use Rattle.shard_core.proofs.shard.copied.Given as goal

-- the rows so far are copied
abbrev pub invariant-rows : goal.invariant-rows
invariant-rows l = l.made.items ≡ take l.row-index l.rows
