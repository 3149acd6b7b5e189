use Rattle.window_core.proofs.Merging.{merging_older, merging_newer}
use Rattle.window_core.proofs.run.merge.Goals as goal

pub rows-preserved-then-is_older_next : goal.rows-preserved-then-is_older_next
rows-preserved-then-is_older_next c =
    merging_older c.args.older.now c.args.newer.now c.rows.from_older c.rows.from_newer c.rows.run _ c.requires.older c.requires.newer c.rows.invariant
    (c.is_older_next.ensures.older c.if-is_older_next.true) c.in_ok-push_from.ensures.ok

pub rows-preserved : goal.rows-preserved
rows-preserved c =
    merging_newer c.args.older.now c.args.newer.now c.rows.from_older c.rows.from_newer c.rows.run _ c.requires.older c.requires.newer c.requires.times c.rows.invariant
    (c.is_older_next.ensures.newer c.if-is_older_next.false) c.in_ok-push_from-2.ensures.ok
