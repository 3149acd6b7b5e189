use Rattle.std.proofs.Common.{◌≡◌, Bool, true, false, rules, tests}
use Rattle.std.proofs.lemmas.List.Sorted.{IsPartitionPoint-from_clause}
use Rattle.place_core.specs.declared.shards.Locator.{Locator}
use Rattle.place_core.specs.Places.{located}
use Rattle.route_core.specs.Routes.{LocatorComesBefore}
use Rattle.place_core.specs.Shown.{place_of}
use Rattle.place_core.specs.Lines.{up_to}
use Rattle.place_core.proofs.Standing.{stand_parted, front_all, back_all}
use Rattle.place_core.proofs.Orders.{up_to_down}
use Rattle.route_core.proofs.locators.first_behind.Goals as goal

pub returns-clause-front : goal.returns-clause-front
returns-clause-front c =
    let test : Locator → Bool = λ l. up_to (place_of c.args.index) c.args.key.now (located l) in
    let parted = stand_parted LocatorComesBefore test (λ one other. up_to_down (place_of c.args.index) c.args.key.now (located one) (located other)) c.args.locators.now c.requires in
    let point = IsPartitionPoint-from_clause test c.args.locators.now c.partition_point.result c.partition_point.ensures.partitioned parted (λ a r f k. search (rules, tests)) in
    front_all (λ l. test l ≡ true) c.args.locators.now c.partition_point.result point.0

pub returns-clause-back : goal.returns-clause-back
returns-clause-back c =
    let test : Locator → Bool = λ l. up_to (place_of c.args.index) c.args.key.now (located l) in
    let parted = stand_parted LocatorComesBefore test (λ one other. up_to_down (place_of c.args.index) c.args.key.now (located one) (located other)) c.args.locators.now c.requires in
    let point = IsPartitionPoint-from_clause test c.args.locators.now c.partition_point.result c.partition_point.ensures.partitioned parted (λ a r f k. search (rules, tests)) in
    back_all (λ l. test l ≡ false) c.args.locators.now c.partition_point.result point.1
