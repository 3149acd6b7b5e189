use Rattle.std.proofs.Common.{sym, subst}
use Rattle.std.proofs.lemmas.Result.{IfOk-weaker}
use Rattle.window_core.proofs.FirstKey.{found_none, found_some}
use Rattle.window_core.proofs.caller.first_at.Goals as goal

pub returns-in_default-clause-first : goal.returns-in_default-clause-first
returns-in_default-clause-first g c = λ stands.
    found_none _ c.args.key.now c.args.time c.in_ok-chunk.chunk (c.in_ok-chunk.ensures.chunk stands) c.items.result.now c.items.ensures (sym c.in_default.ensures.value)

pub returns-clause-first : goal.returns-clause-first
returns-clause-first g c = λ stands.
    let again = subst (g.W.Window.stands c.args.window.now) (sym c.chunk.ensures.same) stands in
    IfOk-weaker c.last.result _ _
    (λ found last. found_some _ c.args.key.now c.args.time c.in_ok-chunk.chunk (c.in_ok-chunk.ensures.chunk stands) c.items.result.now c.items.ensures
    c.in-Some.first.now (sym c.in-Some.ensures.value) c.bytes.result.now c.bytes.ensures found last) (c.last.ensures.last again)
