use Rattle.std.proofs.Common.{map, take}
use Rattle.std.specs.Arc.{arc_value}
use Rattle.std.specs.List.{AllByRecursion}
use Rattle.change_model.specs.Known.{GiveNoId}
use Rattle.change_model.proofs.known.later_id.Given as goal

abbrev pub invariant-entries : goal.invariant-entries
invariant-entries l = AllByRecursion (λ entry. GiveNoId entry.t2i l.key) (map arc_value (take l.entry-index l.later))
