use Rattle.std.proofs.Common.{◌≡◌, ℕ, List, length, Option}
use Rattle.std.specs.List.{AllByRecursion}
use Rattle.commit_core.specs.Ledgers.{IsLedger}
use Rattle.commit_core.specs.Pins.{IsOfBoard, ArePutOut, IsSameOut}
use Rattle.commit_core.proofs.ledger.Ledger.release_all.Given as goal

abbrev pub invariant-pins : goal.invariant-pins
invariant-pins l = record {
  each : AllByRecursion (IsOfBoard l.self.keeper.board) l.pins.items;
  is : l.self ≡ record l.initial.self { keeper = record l.initial.self.keeper { out = l.self.keeper.out } };
  back : (start : List (Option ℕ)) → ArePutOut start l.initial.pins.items l.initial.self.keeper.out
      → (mid : List (Option ℕ)) × ArePutOut start l.pins.items mid × IsSameOut mid l.self.keeper.out;
  sound : IsLedger l.self;
}

abbrev pub decreases-pins : goal.decreases-pins
decreases-pins l = length l.pins.items
