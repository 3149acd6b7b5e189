use Rattle.std.proofs.Common.{sym, ◌∙◌, arith}
use Rattle.window_core.proofs.Searching.{found_past, found_other, found_own}
use Rattle.window_core.proofs.run.newest_at.Goals as goal

pub returns-then-index-len : goal.returns-then-index-len
returns-then-index-len c = found_past c.args.run.now c.args.key.now c.args.time _ c.first_from-index.ensures (omega (arith, c.if-index-len.true, c.len.ensures))

pub returns-then-not-is_same : goal.returns-then-not-is_same
returns-then-not-is_same c =
    found_other c.args.run.now c.args.key.now c.args.time _ c.requires c.first_from-index.ensures (omega (arith, c.if-index-len.false, c.len.ensures))
    (λ same. let h = c.if-not-is_same.ensures.1 (c.key_at.ensures.key ∙ same) in cc)

pub returns : goal.returns
returns c =
    found_own c.args.run.now c.args.key.now c.args.time _ c.requires c.first_from-index.ensures (omega (arith, c.if-index-len.false, c.len.ensures))
    (sym c.key_at.ensures.key ∙ c.is_same.ensures.0 c.if-not-is_same.false)
