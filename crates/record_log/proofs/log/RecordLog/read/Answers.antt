use Rattle.std.proofs.Common.{◌≡◌, length, drop, Some, ap, sym, ◌∙◌, arith}
use Rattle.std.proofs.lemmas.List.{take_at}
use Rattle.record_log.proofs.Bodies.{has_read, has_whole, undecided_read, undecided_whole}
use Rattle.record_log.proofs.Extents.{place_at}
use Rattle.record_log.proofs.log.RecordLog.read.Goals as goal

pub returns-then-count-len-clause-records : goal.returns-then-count-len-clause-records
returns-then-count-len-clause-records g c = λ bodies has.
    let place = c.at-place.result in
    let out = c.read_at.new.out in
    let room : length out ≡ place.size = omega (arith, c.read_at.auto.out, ap length c.deref_mut.ensures.value, c.in_ok-body.ensures) in
    let size : c.len.result ≡ place.size = omega (arith, c.len.ensures, c.in_ok-body.body.ok.0, c.in_ok-body.ensures) in
    has_whole c.args.self.now (g.D.Disk.told c.args.disk.now) bodies c.args.k place out c.in_ok-count.count c.len.result has c.at-place.ensures room size c.if-count-len.true c.in_ok-count.ensures.bytes

pub returns-then-count-len-clause-undecided : goal.returns-then-count-len-clause-undecided
returns-then-count-len-clause-undecided g c = λ bodies last undecided.
    let place = c.at-place.result in
    let out = c.read_at.new.out in
    let room : length out ≡ place.size = omega (arith, c.read_at.auto.out, ap length c.deref_mut.ensures.value, c.in_ok-body.ensures) in
    let size : c.len.result ≡ place.size = omega (arith, c.len.ensures, c.in_ok-body.body.ok.0, c.in_ok-body.ensures) in
    undecided_whole c.args.self.now (g.D.Disk.told c.args.disk.now) bodies last c.args.k place out c.in_ok-count.count c.len.result (g.met.D.Disk.sound c.args.disk.now) undecided c.at-place.ensures room size c.if-count-len.true c.in_ok-count.ensures.bytes

pub returns-clause-records : goal.returns-clause-records
returns-clause-records g c = λ bodies has.
    let place = c.at-place.result in
    let out = c.read_at.new.out in
    let room : length out ≡ place.size = omega (arith, c.read_at.auto.out, ap length c.deref_mut.ensures.value, c.in_ok-body.ensures) in
    let size : c.len.result ≡ place.size = omega (arith, c.len.ensures, c.in_ok-body.body.ok.0, c.in_ok-body.ensures) in
    let body = c.in_ok-body.body in
    let same : body.len ≡ place.size = omega (arith, c.len.ensures) in
    has_read c.args.self.now (g.D.Disk.told c.args.disk.now) bodies c.args.k place out body.items c.in_ok-count.count body.len has c.at-place.ensures room same
    (omega (arith, c.if-count-len.false, c.len.ensures)) c.in_ok-count.ensures.bytes

pub returns-clause-undecided : goal.returns-clause-undecided
returns-clause-undecided g c = λ bodies last undecided.
    let place = c.at-place.result in
    let out = c.read_at.new.out in
    let room : length out ≡ place.size = omega (arith, c.read_at.auto.out, ap length c.deref_mut.ensures.value, c.in_ok-body.ensures) in
    let size : c.len.result ≡ place.size = omega (arith, c.len.ensures, c.in_ok-body.body.ok.0, c.in_ok-body.ensures) in
    let body = c.in_ok-body.body in
    let same : body.len ≡ place.size = omega (arith, c.len.ensures) in
    undecided_read c.args.self.now (g.D.Disk.told c.args.disk.now) bodies last c.args.k place out body.items c.in_ok-count.count body.len (g.met.D.Disk.sound c.args.disk.now) undecided c.at-place.ensures room same
    (omega (arith, c.if-count-len.false, c.len.ensures)) c.in_ok-count.ensures.bytes

pub returns-clause-size : goal.returns-clause-size
returns-clause-size g c =
    let place = c.at-place.result in
    let out = c.read_at.new.out in
    let body = c.in_ok-body.body in
    let room : length out ≡ place.size = omega (arith, c.read_at.auto.out, ap length c.deref_mut.ensures.value, c.in_ok-body.ensures) in
    let same : body.len ≡ place.size = omega (arith, c.in_ok-body.body.ok.0, c.in_ok-body.ensures) in
    let whole = take_at out (drop (length out) body.items) body.len (omega (arith, room, same)) in
    (place_at 0 c.args.self.now.extent.sizes c.args.k place c.at-place.ensures).size ∙ ap Some (sym (ap length whole ∙ room))
