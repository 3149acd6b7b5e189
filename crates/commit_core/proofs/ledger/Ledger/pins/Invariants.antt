use Rattle.std.proofs.Common.{◌≡◌, ◌-◌, ◌≤◌, length}
use Rattle.std.specs.Vec.{vec_capacity}
use Rattle.std.specs.List.{AllByRecursion}
use Rattle.commit_core.specs.Ledgers.{IsLedger}
use Rattle.commit_core.specs.Pins.{IsPinOf, ArePutOut}
use Rattle.commit_core.proofs.ledger.Ledger.pins.Given as goal

abbrev pub invariant-pins : goal.invariant-pins
invariant-pins l = record {
  room : l.count ≤ vec_capacity l.pins;
  few : length l.pins.items ≤ l.count;
  each : AllByRecursion (IsPinOf l.initial.self.keeper) l.pins.items;
  out : ArePutOut l.initial.self.keeper.out l.pins.items l.self.keeper.out;
  is : l.self ≡ record l.initial.self { keeper = record l.initial.self.keeper { out = l.self.keeper.out } };
  sound : IsLedger l.self;
}

abbrev pub decreases-pins : goal.decreases-pins
decreases-pins l = l.count - length l.pins.items
