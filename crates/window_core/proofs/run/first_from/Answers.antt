use Rattle.std.proofs.Common.{◌+◌, ◌-◌, ◌/◌, refl, sym, ◌∙◌, arith}
use Rattle.window_core.proofs.Searching.{halved_high, halved_low}
use Rattle.window_core.proofs.run.first_from.Goals as goal

pub halves-preserved-then-reaches : goal.halves-preserved-then-reaches
halves-preserved-then-reaches c =
    halved_high c.args.run.now c.args.key.now c.args.time c.halves.low c.halves.high (c.halves.low + (c.halves.high - c.halves.low) / 2) c.requires c.halves.invariant
    (omega arith) (omega (arith, c.halves-test.true)) (sym c.reaches.ensures ∙ c.if-reaches.true)

pub halves-preserved : goal.halves-preserved
halves-preserved c =
    halved_low c.args.run.now c.args.key.now c.args.time c.halves.low c.halves.high (c.halves.low + (c.halves.high - c.halves.low) / 2) _ c.requires c.halves.invariant
    (omega (arith, c.halves-test.true)) (sym c.reaches.ensures ∙ c.if-reaches.false) refl
