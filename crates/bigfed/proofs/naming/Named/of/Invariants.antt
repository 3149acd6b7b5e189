use Rattle.std.proofs.Common.{◌≡◌, ℕ, ◌++◌, List}
use Rattle.std.specs.List.{AllByRecursion}
use Rattle.term_core.specs.Term.{IsTerm}
use Rattle.change_model.specs.History.{History}
use Rattle.bigfed.specs.Indexed.{AreIndexesOf}
use Rattle.bigfed.specs.Naming.{AreSeatsOf}
use Rattle.bigfed.proofs.naming.Named.of.Given as goal

abbrev pub invariant-ids : goal.invariant-ids
invariant-ids l = record {
  seats : (history : History) → AreIndexesOf history l.indexes → (done : List ℕ) × (done ++ l.id-iterator ≡ l.ids.keys) × AreSeatsOf history done l.named;
  terms : AllByRecursion IsTerm l.named.terms.items;
}
