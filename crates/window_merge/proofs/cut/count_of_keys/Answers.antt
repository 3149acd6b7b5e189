use Rattle.std.proofs.Common.{refl, arith}
use Rattle.window_merge.proofs.Counting.{counted_more}
use Rattle.window_merge.proofs.cut.count_of_keys.Goals as goal

pub rows-preserved : goal.rows-preserved
rows-preserved c =
    counted_more c.args.rows.now c.args.most c.rows.left c.in-Some.others c.rows.count _ c.rows.invariant (omega (arith, c.rows-test.true)) c.in-Some.ensures refl
