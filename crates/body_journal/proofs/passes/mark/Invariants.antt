use Rattle.std.proofs.Common.{◌≡◌, ◌++◌, take, drop}
use Rattle.body_journal.specs.Held.{marked}
use Rattle.body_journal.proofs.passes.mark.Given as goal

abbrev pub invariant-held : goal.invariant-held
invariant-held l = marked l.fn.serial l.fn.count 1 l.initial.held ≡ take l.one-index l.held ++ marked l.fn.serial l.fn.count l.place (drop l.one-index l.held)
