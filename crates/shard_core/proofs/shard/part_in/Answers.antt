use Rattle.std.proofs.Common.{sym, subst, arith}
use Rattle.std.specs.Prelude.{Some}
use Rattle.std.proofs.lemmas.Result.{IfOk-weaker}
use Rattle.window_merge.specs.Parting.{ArePartedAt}
use Rattle.shard_core.specs.Viewing.{IsPartIn}
use Rattle.shard_core.proofs.Parts.{part_is, greater}
use Rattle.shard_core.proofs.shard.part_in.Goals as goal

pub returns : goal.returns
returns c =
    let first = c.count_before-first.result in
    let end = c.count_before_end.result in
    let last = c.max-end.result in
    let is = c.max-end.ensures in
    let left = subst (λ key. ArePartedAt c.args.rows.now (Some key) first) c.bytes.ensures c.count_before-first.ensures in
    IfOk-weaker c.copied.result _ (IsPartIn c.args.span.now c.args.rows.now)
    (λ made same. subst (IsPartIn c.args.span.now c.args.rows.now) (sym same)
    (part_is c.args.span.now c.args.rows.now first end last c.requires left c.count_before_end.ensures (omega (arith, is)) (omega (arith, is)) (greater end first last is))) c.copied.ensures
