-- Private: what a store stands for.
use Rattle.std.specs.Prelude.{◌≡◌, map}
use Rattle.change_model.specs.History.{History}
use Rattle.bigfed.specs.declared.store.Store.{Store}
use Rattle.bigfed.specs.Indexed.{AreIndexesOf}

-- the store has the indexes of the history, and where each of its changes came from
pub record StoreStandsFor (store : Store) (history : History) : Type 0 where
  pub indexes : AreIndexesOf history store.indexes
  pub origins : store.origins ≡ map (λ committed. committed.origin) history
