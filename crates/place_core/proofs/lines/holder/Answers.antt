use Rattle.std.proofs.Common.{◌-◌, arith}
use Rattle.place_core.proofs.Holding.{held_at}
use Rattle.place_core.proofs.lines.holder.Goals as goal

pub overflow_sub-result : goal.overflow_sub-result
overflow_sub-result c = let e = c.first_behind.ensures in (held_at c.args.lines.now c.args.index c.args.key.now c.requires c.first_behind.result e.bound e.front e.back).0

pub returns : goal.returns
returns c =
    let e = c.first_behind.ensures in
    let held = held_at c.args.lines.now c.args.index c.args.key.now c.requires c.first_behind.result e.bound e.front e.back in
    let some = held.0 in
    held.1 (c.first_behind.result - 1) (omega arith)
