use Rattle.std.proofs.Common.{◌∷◌, ◌++◌, [], ℕ, length, ◌+◌, sym, ap, subst, ◌∙◌}
use Rattle.disk_core.specs.Disk.{IsPerhapsWritten}
use Rattle.record_log.specs.Logs.{HasRecords, IsUndecided}
use Rattle.record_log.specs.Sizes.{LogSizes, kept_in, opened}
use Rattle.record_log.specs.Through.{IsWrittenThrough}
use Rattle.record_log.proofs.Moving.{moments_further, others_failed, others_through}
use Rattle.record_log.proofs.Putting.{on_err, record_failed_moments, undecided_begun, undecided_opening, moments_opening, moments_put, left_put, keeps_from_left, has_put}
use Rattle.record_log.proofs.log.RecordLog.write_record.Goals as goal

pub returns-in_err-write_through-clause-others : goal.returns-in_err-write_through-clause-others
returns-in_err-write_through-clause-others g c =
    let log = c.args.self.now in
    others_failed log.file (c.end-gate.result + 1) (length c.args.bytes.now) (g.D.Disk.told c.args.disk.now) (g.D.Disk.told c.write_through.new.disk)
    c.in_err-write_through.ensures.err

pub returns-in_err-write_through-clause-moments : goal.returns-in_err-write_through-clause-moments
returns-in_err-write_through-clause-moments g c = λ bodies body is ready keeps.
    let log = c.args.self.now in
    record_failed_moments log (g.D.Disk.told c.args.disk.now) (g.D.Disk.told c.write_through.new.disk) bodies body c.args.bytes.now
    (g.met.D.Disk.sound c.args.disk.now) ready keeps
    (subst (λ (n : ℕ). IsPerhapsWritten log.file (n + 1) (length c.args.bytes.now) (g.D.Disk.told c.args.disk.now) (g.D.Disk.told c.write_through.new.disk)) c.end-gate.ensures c.in_err-write_through.ensures.err)

pub returns-in_err-write_through-clause-undecided : goal.returns-in_err-write_through-clause-undecided
returns-in_err-write_through-clause-undecided g c = λ bodies body is ready keeps.
    let log = c.args.self.now in
    on_err c.from_residual.result _
    (subst (λ (extent : LogSizes). IsUndecided (record log { extent = extent }) (g.D.Disk.told c.write_through.new.disk) bodies body) (sym c.begin.ensures)
    (undecided_begun log (g.D.Disk.told c.args.disk.now) (g.D.Disk.told c.write_through.new.disk) bodies body c.args.bytes.now c.args.size
    (g.met.D.Disk.sound c.args.disk.now) is ready keeps
    (subst (λ (n : ℕ). IsPerhapsWritten log.file (n + 1) (length c.args.bytes.now) (g.D.Disk.told c.args.disk.now) (g.D.Disk.told c.write_through.new.disk)) c.end-gate.ensures c.in_err-write_through.ensures.err)))

pub returns-in_err-write_through-2-clause-others : goal.returns-in_err-write_through-2-clause-others
returns-in_err-write_through-2-clause-others g c =
    let log = c.args.self.now in
    moments_further log.file (λ image. Unit {0}) (g.D.Disk.told c.args.disk.now) (g.D.Disk.told c.write_through.new.disk) (g.D.Disk.told c.write_through-2.new.disk)
    (others_through log.file (c.end-gate.result + 1) c.args.bytes.now (g.D.Disk.told c.args.disk.now) (g.D.Disk.told c.write_through.new.disk) c.in_ok-write_through.ensures.ok)
    (others_failed log.file c.end-gate.result 1 (g.D.Disk.told c.write_through.new.disk) (g.D.Disk.told c.write_through-2.new.disk) c.in_err-write_through-2.ensures.err)

pub returns-in_err-write_through-2-clause-moments : goal.returns-in_err-write_through-2-clause-moments
returns-in_err-write_through-2-clause-moments g c = λ bodies body is ready keeps.
    let log = c.args.self.now in
    moments_opening log (g.D.Disk.told c.args.disk.now) (g.D.Disk.told c.write_through.new.disk) (g.D.Disk.told c.write_through-2.new.disk) bodies body
    c.args.bytes.now (g.met.D.Disk.sound c.args.disk.now) (g.met.D.Disk.sound c.write_through.new.disk) ready keeps
    (subst (λ (n : ℕ). IsWrittenThrough log.file (n + 1) c.args.bytes.now (g.D.Disk.told c.args.disk.now) (g.D.Disk.told c.write_through.new.disk)) c.end-gate.ensures c.in_ok-write_through.ensures.ok)
    (subst (λ (n : ℕ). IsPerhapsWritten log.file n 1 (g.D.Disk.told c.write_through.new.disk) (g.D.Disk.told c.write_through-2.new.disk)) c.end-gate.ensures c.in_err-write_through-2.ensures.err)

pub returns-in_err-write_through-2-clause-undecided : goal.returns-in_err-write_through-2-clause-undecided
returns-in_err-write_through-2-clause-undecided g c = λ bodies body is ready keeps.
    let log = c.args.self.now in
    let opening = c.open.ensures ∙ ap (λ (extent : LogSizes). record extent { stage = opened extent.stage }) c.begin.ensures in
    on_err c.from_residual-in_err-write_through-2.result _
    (subst (λ (extent : LogSizes). IsUndecided (record log { extent = extent }) (g.D.Disk.told c.write_through-2.new.disk) bodies body) (sym opening)
    (undecided_opening log (g.D.Disk.told c.args.disk.now) (g.D.Disk.told c.write_through.new.disk) (g.D.Disk.told c.write_through-2.new.disk) bodies body
    c.args.bytes.now c.args.size (g.met.D.Disk.sound c.write_through.new.disk) is ready
    (subst (λ (n : ℕ). IsWrittenThrough log.file (n + 1) c.args.bytes.now (g.D.Disk.told c.args.disk.now) (g.D.Disk.told c.write_through.new.disk)) c.end-gate.ensures c.in_ok-write_through.ensures.ok)
    (subst (λ (n : ℕ). IsPerhapsWritten log.file n 1 (g.D.Disk.told c.write_through.new.disk) (g.D.Disk.told c.write_through-2.new.disk)) c.end-gate.ensures c.in_err-write_through-2.ensures.err)))

pub returns-clause-others : goal.returns-clause-others
returns-clause-others g c =
    let log = c.args.self.now in
    moments_further log.file (λ image. Unit {0}) (g.D.Disk.told c.args.disk.now) (g.D.Disk.told c.write_through.new.disk) (g.D.Disk.told c.write_through-2.new.disk)
    (others_through log.file (c.end-gate.result + 1) c.args.bytes.now (g.D.Disk.told c.args.disk.now) (g.D.Disk.told c.write_through.new.disk) c.in_ok-write_through.ensures.ok)
    (others_through log.file c.end-gate.result (1 ∷ []) (g.D.Disk.told c.write_through.new.disk) (g.D.Disk.told c.write_through-2.new.disk) c.in_ok-write_through-2.ensures.ok)

pub returns-clause-moments : goal.returns-clause-moments
returns-clause-moments g c = λ bodies body is ready keeps.
    let log = c.args.self.now in
    moments_put log (g.D.Disk.told c.args.disk.now) (g.D.Disk.told c.write_through.new.disk) (g.D.Disk.told c.write_through-2.new.disk) bodies body
    c.args.bytes.now (g.met.D.Disk.sound c.args.disk.now) (g.met.D.Disk.sound c.write_through.new.disk) ready keeps
    (subst (λ (n : ℕ). IsWrittenThrough log.file (n + 1) c.args.bytes.now (g.D.Disk.told c.args.disk.now) (g.D.Disk.told c.write_through.new.disk)) c.end-gate.ensures c.in_ok-write_through.ensures.ok)
    (subst (λ (n : ℕ). IsWrittenThrough log.file n (1 ∷ []) (g.D.Disk.told c.write_through.new.disk) (g.D.Disk.told c.write_through-2.new.disk)) c.end-gate.ensures c.in_ok-write_through-2.ensures.ok)

pub returns-clause-records : goal.returns-clause-records
returns-clause-records g c = λ bodies body is ready.
    let log = c.args.self.now in
    let kept = c.keep.ensures ∙ ap kept_in (c.open.ensures ∙ ap (λ (extent : LogSizes). record extent { stage = opened extent.stage }) c.begin.ensures) in
    subst (λ (extent : LogSizes). HasRecords (record log { extent = extent }) (g.D.Disk.told c.write_through-2.new.disk) (bodies ++ body ∷ [])) (sym kept)
    (has_put log (g.D.Disk.told c.args.disk.now) (g.D.Disk.told c.write_through.new.disk) (g.D.Disk.told c.write_through-2.new.disk) bodies body
    c.args.bytes.now c.args.size (g.met.D.Disk.sound c.write_through.new.disk) (g.met.D.Disk.sound c.write_through-2.new.disk) is ready
    (subst (λ (n : ℕ). IsWrittenThrough log.file (n + 1) c.args.bytes.now (g.D.Disk.told c.args.disk.now) (g.D.Disk.told c.write_through.new.disk)) c.end-gate.ensures c.in_ok-write_through.ensures.ok)
    (subst (λ (n : ℕ). IsWrittenThrough log.file n (1 ∷ []) (g.D.Disk.told c.write_through.new.disk) (g.D.Disk.told c.write_through-2.new.disk)) c.end-gate.ensures c.in_ok-write_through-2.ensures.ok))

pub returns-clause-keeps : goal.returns-clause-keeps
returns-clause-keeps g c = λ bodies body is ready.
    let log = c.args.self.now in
    keeps_from_left (record log { extent = c.keep.new.self }) (g.D.Disk.told c.write_through-2.new.disk) (bodies ++ body ∷ [])
    (left_put log (g.D.Disk.told c.args.disk.now) (g.D.Disk.told c.write_through.new.disk) (g.D.Disk.told c.write_through-2.new.disk) bodies body
    c.args.bytes.now (g.met.D.Disk.sound c.write_through.new.disk) ready
    (subst (λ (n : ℕ). IsWrittenThrough log.file (n + 1) c.args.bytes.now (g.D.Disk.told c.args.disk.now) (g.D.Disk.told c.write_through.new.disk)) c.end-gate.ensures c.in_ok-write_through.ensures.ok)
    (subst (λ (n : ℕ). IsWrittenThrough log.file n (1 ∷ []) (g.D.Disk.told c.write_through.new.disk) (g.D.Disk.told c.write_through-2.new.disk)) c.end-gate.ensures c.in_ok-write_through-2.ensures.ok))
