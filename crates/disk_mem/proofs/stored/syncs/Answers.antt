use Rattle.std.proofs.Common.{arith}
use Rattle.disk_mem.proofs.Redone.{count_fits, count_step}
use Rattle.disk_mem.proofs.stored.syncs.Goals as goal

pub count_sync-requires : goal.count_sync-requires
count_sync-requires c file =
    let loop = c.calls in
    omega (arith, count_fits loop.counts c.args.calls.now loop.call-index c.call-item.result c.calls-test.true c.call-item.is loop.invariant file)

pub calls-preserved : goal.calls-preserved
calls-preserved c =
    let loop = c.calls in
    count_step loop.counts c.count_sync.new.counts c.args.calls.now loop.call-index c.call-item.result c.calls-test.true c.call-item.is loop.invariant c.in_ok-count_sync.ensures
