use Rattle.std.proofs.Common.{◌≡◌, take}
use Rattle.window_core.proofs.run.copied.Given as goal

-- the rows so far are copied
abbrev pub invariant-rows : goal.invariant-rows
invariant-rows l = l.run ≡ take l.row-index l.rows
