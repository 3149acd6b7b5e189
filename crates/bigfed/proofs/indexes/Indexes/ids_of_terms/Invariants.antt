use Rattle.std.proofs.Common.{◌≡◌, take, length}
use Rattle.change_model.specs.History.{History}
use Rattle.change_model.specs.Entries.{AreIdsOf}
use Rattle.bigfed.specs.Indexed.{AreIndexesOf}
use Rattle.bigfed.proofs.indexes.Indexes.ids_of_terms.Given as goal

abbrev pub invariant-terms : goal.invariant-terms
invariant-terms l = record {
  ids : (history : History) → AreIndexesOf history l.self → AreIdsOf history (take l.term-index l.terms) l.ids.items;
  one_each : length l.ids.items ≡ l.term-index;
}
