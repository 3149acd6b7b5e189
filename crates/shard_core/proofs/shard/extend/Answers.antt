use Rattle.std.proofs.Common.{◌+◌, ◌-◌, ◌≡◌, length, vec_len, refl, arith}
use Rattle.std.proofs.lemmas.Result.{on_ok_weaker, on_err_weaker}
use Rattle.shard_core.proofs.Lasts.{next_last, same_last, ends_last}
use Rattle.shard_core.proofs.shard.extend.Goals as goal

pub extend_last-requires-clause-next : goal.extend_last-requires-clause-next
extend_last-requires-clause-next c =
    let some = c.in-Some.ensures.variant.0 refl in
    let long : (vec_len c.args.windows.now - 1) + 1 ≡ length c.args.windows.now.items = omega (arith, some, c.args.windows.now.ok.0) in
    ends_last c.args.time c.args.windows.now.items (vec_len c.args.windows.now - 1) c.in-Some.last.now c.requires.next long c.in-Some.ensures.value

pub returns-in-Some-clause-ok : goal.returns-in-Some-clause-ok
returns-in-Some-clause-ok c =
    let some = c.in-Some.ensures.variant.0 refl in
    let long : (vec_len c.args.windows.now - 1) + 1 ≡ length c.args.windows.now.items = omega (arith, some, c.args.windows.now.ok.0) in
    on_ok_weaker c.extend_last.result
    (λ is. next_last c.args.windows.now.items (vec_len c.args.windows.now - 1) c.in-Some.last.now c.extend_last.new.last c.args.rows.now long c.in-Some.ensures.value is)
    c.extend_last.ensures.ok

pub returns-in-Some-clause-err : goal.returns-in-Some-clause-err
returns-in-Some-clause-err c =
    let some = c.in-Some.ensures.variant.0 refl in
    let long : (vec_len c.args.windows.now - 1) + 1 ≡ length c.args.windows.now.items = omega (arith, some, c.args.windows.now.ok.0) in
    on_err_weaker c.extend_last.result
    (λ same. same_last c.args.windows.now.items (vec_len c.args.windows.now - 1) c.in-Some.last.now c.extend_last.new.last long c.in-Some.ensures.value same)
    c.extend_last.ensures.err
