use Rattle.window_core.proofs.Taking.{taking_more}
use Rattle.window_core.proofs.run.taken.Goals as goal

pub rows-preserved : goal.rows-preserved
rows-preserved c =
    taking_more c.args.span.now c.args.rows.now c.rows.row-index c.rows.run _ c.row-item.result c.rows.invariant c.rows-test.true c.row-item.is c.in_ok-take.ensures
