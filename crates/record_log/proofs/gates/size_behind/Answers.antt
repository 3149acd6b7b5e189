use Rattle.std.proofs.Common.{◌≡◌, ℕ, ◌-◌, List, length, take, drop, refl, ap, ◌∙◌, arith}
use Rattle.std.proofs.lemmas.List.{length-drop}
use Rattle.record_log.proofs.Finding.{read_front, whole_from, cut_from, short_from}
use Rattle.record_log.proofs.gates.size_behind.Goals as goal

pub returns-in-Open-clause-behind : goal.returns-in-Open-clause-behind
returns-in-Open-clause-behind g c = λ bytes reads size.
    let front : List ℕ = take c.in_ok-count.count c.read_at.new.out in
    let tail : List ℕ = drop c.args.gate bytes in
    let room : length c.read_at.new.out ≡ 5 = omega (arith, c.read_at.auto.out) in
    let read : front ≡ take 5 tail =
    read_front (g.D.Disk.told c.args.disk.now) c.args.file c.args.gate (length c.read_at.new.out) bytes front reads c.in_ok-count.ensures.bytes ∙ ap (λ n. take n tail) room in
    let long : length tail ≡ length bytes - c.args.gate = length-drop c.args.gate bytes in
    whole_from tail front c.in-Open.body read c.in-Open.ensures (omega (arith, c.if-size-gate.true, c.from.ensures, size, long))

pub returns-in_default-clause-behind : goal.returns-in_default-clause-behind
returns-in_default-clause-behind g c = λ bytes reads size.
    let front : List ℕ = take c.in_ok-count.count c.read_at.new.out in
    let tail : List ℕ = drop c.args.gate bytes in
    let room : length c.read_at.new.out ≡ 5 = omega (arith, c.read_at.auto.out) in
    let read : front ≡ take 5 tail =
    read_front (g.D.Disk.told c.args.disk.now) c.args.file c.args.gate (length c.read_at.new.out) bytes front reads c.in_ok-count.ensures.bytes ∙ ap (λ n. take n tail) room in
    let long : length tail ≡ length bytes - c.args.gate = length-drop c.args.gate bytes in
    (refl, cut_from tail front c.in-Open.body read c.in-Open.ensures (omega (arith, c.if-size-gate.false, c.from.ensures, size, long)))

pub returns-in_default-2-clause-behind : goal.returns-in_default-2-clause-behind
returns-in_default-2-clause-behind g c = λ bytes reads size.
    let front : List ℕ = take c.in_ok-count.count c.read_at.new.out in
    let tail : List ℕ = drop c.args.gate bytes in
    let room : length c.read_at.new.out ≡ 5 = omega (arith, c.read_at.auto.out) in
    let read : front ≡ take 5 tail =
    read_front (g.D.Disk.told c.args.disk.now) c.args.file c.args.gate (length c.read_at.new.out) bytes front reads c.in_ok-count.ensures.bytes ∙ ap (λ n. take n tail) room in
    let long : length tail ≡ length bytes - c.args.gate = length-drop c.args.gate bytes in
    (refl, short_from tail front read c.in_default.ensures)
