use Rattle.disk_mem.specs.Contents.{bytes_in}
use Rattle.disk_mem.proofs.Redone.{redone_more}
use Rattle.disk_mem.proofs.stored.stored.Goals as goal

pub calls-preserved : goal.calls-preserved
calls-preserved c =
    let loop = c.calls in
    let redone = c.in_ok-redo.ensures in
    redone_more (bytes_in c.args.first.now.files) c.args.calls.now loop.call-index c.call-item.result loop.left c.redo.new.left loop.stored.files c.redo.new.stored.files c.calls-test.true c.call-item.is
    loop.invariant redone.left redone.redone redone.kept
