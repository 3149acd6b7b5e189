use Rattle.std.proofs.Common.{◌≡◌, true, false, rules, tests}
use Rattle.std.proofs.lemmas.List.Sorted.{IsPartitionPoint-from_clause}
use Rattle.place_core.specs.Places.{LineComesBefore}
use Rattle.place_core.specs.Shown.{place_of}
use Rattle.place_core.specs.Lines.{up_to}
use Rattle.place_core.proofs.Standing.{stand_parted, front_all, back_all}
use Rattle.place_core.proofs.Orders.{up_to_down}
use Rattle.place_core.proofs.lines.first_behind.Goals as goal

pub returns-clause-front : goal.returns-clause-front
returns-clause-front c =
    let test = up_to (place_of c.args.index) c.args.key.now in
    let parted = stand_parted LineComesBefore test (up_to_down (place_of c.args.index) c.args.key.now) c.args.lines.now c.requires in
    let point = IsPartitionPoint-from_clause test c.args.lines.now c.partition_point.result c.partition_point.ensures.partitioned parted (λ a r f k. search (rules, tests)) in
    front_all (λ line. test line ≡ true) c.args.lines.now c.partition_point.result point.0

pub returns-clause-back : goal.returns-clause-back
returns-clause-back c =
    let test = up_to (place_of c.args.index) c.args.key.now in
    let parted = stand_parted LineComesBefore test (up_to_down (place_of c.args.index) c.args.key.now) c.args.lines.now c.requires in
    let point = IsPartitionPoint-from_clause test c.args.lines.now c.partition_point.result c.partition_point.ensures.partitioned parted (λ a r f k. search (rules, tests)) in
    back_all (λ line. test line ≡ false) c.args.lines.now c.partition_point.result point.1
