use Rattle.std.proofs.Common.{◌+◌, ◌-◌, ◌/◌, refl, arith}
use Rattle.window_merge.proofs.Counting.{key_read}
use Rattle.window_merge.proofs.Ends.{halved_low, halved_high, before_read, past_read}
use Rattle.window_merge.proofs.cut.count_before.Goals as goal

pub halves-preserved-then-is_before : goal.halves-preserved-then-is_before
halves-preserved-then-is_before c =
    let under = c.halves-test.true in
    let wide = c.halves.invariant.within in
    halved_low c.args.rows.now c.args.key.now c.halves.low c.halves.high (c.halves.low + (c.halves.high - c.halves.low) / 2) _ c.requires c.halves.invariant (omega (arith, under))
    (before_read _ c.args.key.now _ c.is_before.result (key_read c.args.rows.now (c.halves.low + (c.halves.high - c.halves.low) / 2) _ _ (omega (arith, under, wide)) c.index-rows-middle.is c.bytes.ensures)
    c.is_before.ensures c.if-is_before.true) refl

pub halves-preserved : goal.halves-preserved
halves-preserved c =
    let under = c.halves-test.true in
    let wide = c.halves.invariant.within in
    halved_high c.args.rows.now c.args.key.now c.halves.low c.halves.high (c.halves.low + (c.halves.high - c.halves.low) / 2) c.requires c.halves.invariant (omega arith) (omega (arith, under))
    (past_read _ c.args.key.now _ c.is_before.result (key_read c.args.rows.now (c.halves.low + (c.halves.high - c.halves.low) / 2) _ _ (omega (arith, under, wide)) c.index-rows-middle.is c.bytes.ensures)
    c.is_before.ensures c.if-is_before.false)
