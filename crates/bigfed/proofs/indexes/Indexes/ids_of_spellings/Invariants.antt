use Rattle.std.proofs.Common.{◌≡◌, List, map, take}
use Rattle.std.specs.List.{AllByRecursion}
use Rattle.term_core.specs.declared.term.Term.{Term}
use Rattle.term_core.specs.Spelling.{spelling}
use Rattle.term_core.specs.Term.{IsTerm}
use Rattle.change_model.specs.History.{History}
use Rattle.change_model.specs.Entries.{AreIdsOf}
use Rattle.bigfed.specs.Indexed.{AreIndexesOf}
use Rattle.bigfed.proofs.indexes.Indexes.ids_of_spellings.Given as goal

abbrev pub invariant-spellings : goal.invariant-spellings
invariant-spellings l =
    (history : History) (terms : List Term) → AreIndexesOf history l.self → AllByRecursion IsTerm terms → l.spellings ≡ map spelling terms
    → AreIdsOf history (take l.spelling-index terms) l.ids.items
