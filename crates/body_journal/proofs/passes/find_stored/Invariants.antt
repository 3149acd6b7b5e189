use Rattle.std.proofs.Common.{ℕ, drop}
use Rattle.body_journal.specs.Held.{HasStored}
use Rattle.body_journal.proofs.passes.find_stored.Given as goal

abbrev pub invariant-held : goal.invariant-held
invariant-held l = (before : ℕ) → HasStored l.held l.fn.serial l.fn.body before → HasStored (drop l.one-index l.held) l.fn.serial l.fn.body before
