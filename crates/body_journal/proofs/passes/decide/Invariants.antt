use Rattle.std.proofs.Common.{◌≡◌, ◌++◌, map, take, drop}
use Rattle.body_journal.specs.Held.{decided_held}
use Rattle.body_journal.proofs.passes.decide.Given as goal

abbrev pub invariant-held : goal.invariant-held
invariant-held l = map (decided_held l.fn.stored l.fn.is_in) l.initial.held ≡ take l.one-index l.held ++ map (decided_held l.fn.stored l.fn.is_in) (drop l.one-index l.held)
