use Rattle.std.proofs.Common.{◌≡◌, map, take}
use Rattle.std.specs.Arc.{arc_value}
use Rattle.commit_core.proofs.plan.shared.Given as goal

abbrev pub invariant-entries : goal.invariant-entries
invariant-entries l = map arc_value l.copies.items ≡ map arc_value (take l.entry-index l.entries)
