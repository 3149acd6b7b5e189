use Rattle.std.proofs.Common.{sym, subst}
use Rattle.shard_core.specs.Shards.{HaveFloorsUpTo}
use Rattle.shard_core.proofs.tests.filled.Goals as goal

pub returns-clause-floors : goal.returns-clause-floors
returns-clause-floors c = λ floor.
    let fresh = subst (HaveFloorsUpTo floor) (sym c.shard.view_is) (c.in_ok-shard.ensures.floors floor) in
    let first = subst (HaveFloorsUpTo floor) (sym c.shard-2.view_is) (c.in_ok-shard-2.ensures.floors floor fresh) in
    c.applied-4.ensures.floors floor (c.in_ok-shard-3.ensures.floors floor first)
