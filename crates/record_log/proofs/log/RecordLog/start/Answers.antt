use Rattle.std.proofs.Common.{◌≡◌, [], ◌∷◌, length, refl, sym, ap, ◌∙◌, subst, arith}
use Rattle.std.proofs.lemmas.Result.{err_from_is_err_and}
use Rattle.disk_core.specs.Disk.{IsPerhapsWritten}
use Rattle.record_log.specs.declared.log.RecordLog.{RecordLog}
use Rattle.record_log.specs.Devices.{ReadsFile}
use Rattle.record_log.specs.Logs.{HasRecords, KeepsRecords}
use Rattle.record_log.specs.Sizes.{LogSizes}
use Rattle.record_log.specs.Through.{IsWrittenThrough}
use Rattle.record_log.proofs.Fresh.{IsTiny, fresh_small, failed_fresh, failed_fresh_moments, fresh_moments, fresh_carries, start_carries}
use Rattle.record_log.proofs.Moving.{Nothing, moments_same, others_failed, others_through}
use Rattle.record_log.proofs.Putting.{on_any_err}
use Rattle.record_log.proofs.Starting.{stored_reads, large_size, small_failed_moments, small_moments, small_has, small_keeps, large_has, large_keeps, found_not_bad, bad_start}
use Rattle.record_log.proofs.log.RecordLog.start.Goals as goal

pub returns-in_err-write_through-clause-others : goal.returns-in_err-write_through-clause-others
returns-in_err-write_through-clause-others g c =
    others_failed c.args.file 0 1 (g.D.Disk.told c.args.disk.now) (g.D.Disk.told c.write_through.new.disk)
    (subst (λ told. IsPerhapsWritten c.args.file 0 1 told (g.D.Disk.told c.write_through.new.disk)) c.length.ensures.same c.in_err-write_through.ensures.err)

pub returns-in_err-write_through-clause-moments : goal.returns-in_err-write_through-clause-moments
returns-in_err-write_through-clause-moments g c = λ bytes bodies stored log.
    small_failed_moments (g.D.Disk.told c.args.disk.now) (g.D.Disk.told c.write_through.new.disk) c.args.file c.in_ok-size.size bytes bodies stored c.in_ok-size.ensures.ok c.if-size-le1.true log
    (subst (λ told. IsPerhapsWritten c.args.file 0 1 told (g.D.Disk.told c.write_through.new.disk)) c.length.ensures.same c.in_err-write_through.ensures.err)

pub returns-then-size-le1-clause-records : goal.returns-then-size-le1-clause-records
returns-then-size-le1-clause-records g c = λ bytes bodies reads log.
    let made : RecordLog = record { file = c.args.file; limit = c.args.limit; extent = c.new.result } in
    small_has (g.D.Disk.told c.args.disk.now) (g.D.Disk.told c.write_through.new.disk) made c.in_ok-size.size bytes bodies (g.met.D.Disk.sound c.write_through.new.disk) reads c.in_ok-size.ensures.ok c.if-size-le1.true log
    (subst (λ told. IsWrittenThrough c.args.file 0 (0 ∷ []) told (g.D.Disk.told c.write_through.new.disk)) c.length.ensures.same c.in_ok-write_through.ensures.ok) (ap (λ (extent : LogSizes). extent.stage) c.new.ensures) (ap (λ (extent : LogSizes). extent.sizes) c.new.ensures)

pub returns-then-size-le1-clause-others : goal.returns-then-size-le1-clause-others
returns-then-size-le1-clause-others g c =
    others_through c.args.file 0 (0 ∷ []) (g.D.Disk.told c.args.disk.now) (g.D.Disk.told c.write_through.new.disk)
    (subst (λ told. IsWrittenThrough c.args.file 0 (0 ∷ []) told (g.D.Disk.told c.write_through.new.disk)) c.length.ensures.same c.in_ok-write_through.ensures.ok)

pub returns-then-size-le1-clause-keeps : goal.returns-then-size-le1-clause-keeps
returns-then-size-le1-clause-keeps g c = λ bytes bodies stored log.
    let made : RecordLog = record { file = c.args.file; limit = c.args.limit; extent = c.new.result } in
    small_keeps (g.D.Disk.told c.args.disk.now) (g.D.Disk.told c.write_through.new.disk) made c.in_ok-size.size bytes bodies stored c.in_ok-size.ensures.ok c.if-size-le1.true log
    (subst (λ told. IsWrittenThrough c.args.file 0 (0 ∷ []) told (g.D.Disk.told c.write_through.new.disk)) c.length.ensures.same c.in_ok-write_through.ensures.ok)

pub returns-then-size-le1-clause-moments : goal.returns-then-size-le1-clause-moments
returns-then-size-le1-clause-moments g c = λ bytes bodies stored log.
    small_moments (g.D.Disk.told c.args.disk.now) (g.D.Disk.told c.write_through.new.disk) c.args.file c.in_ok-size.size bytes bodies stored c.in_ok-size.ensures.ok c.if-size-le1.true log
    (subst (λ told. IsWrittenThrough c.args.file 0 (0 ∷ []) told (g.D.Disk.told c.write_through.new.disk)) c.length.ensures.same c.in_ok-write_through.ensures.ok)

pub returns-in_err-extent-clause-is_bad : goal.returns-in_err-extent-clause-is_bad
returns-in_err-extent-clause-is_bad g c = λ bytes at reads bad.
    let exact : c.in_ok-size.size ≡ length bytes = large_size (g.D.Disk.told c.args.disk.now) c.args.file c.in_ok-size.size bytes reads c.in_ok-size.ensures.ok in
    let again : ReadsFile (g.D.Disk.told c.length.new.self) c.args.file bytes = subst (λ told. ReadsFile told c.args.file bytes) (sym c.length.ensures.same) reads in
    let p = err_from_is_err_and c.from_residual-in_err-extent.result c.from_residual-in_err-extent.ensures.1 in
    let no_start = bad_start bytes at _ bad (c.in_err-extent.ensures.bad bytes again exact) in
    rw (p.1, p.2) no_start

pub returns-clause-records : goal.returns-clause-records
returns-clause-records g c = λ bytes bodies reads log.
    let same : g.D.Disk.told c.find_records.new.disk ≡ g.D.Disk.told c.args.disk.now = c.find_records.ensures.same ∙ c.length.ensures.same in
    let exact : c.in_ok-size.size ≡ length bytes = large_size (g.D.Disk.told c.args.disk.now) c.args.file c.in_ok-size.size bytes reads c.in_ok-size.ensures.ok in
    let again : ReadsFile (g.D.Disk.told c.length.new.self) c.args.file bytes = subst (λ told. ReadsFile told c.args.file bytes) (sym c.length.ensures.same) reads in
    let made : RecordLog = record { file = c.args.file; limit = c.args.limit; extent = c.in_ok-extent.extent } in
    subst (λ told. HasRecords made told bodies) (sym same)
    (large_has (g.D.Disk.told c.args.disk.now) made c.in_ok-extent.extent.sizes bytes bodies reads (omega (arith, exact, c.if-size-le1.false)) log (c.in_ok-extent.ensures.found bytes again exact) c.in_ok-extent.ensures.settled refl)

pub returns-clause-is_bad : goal.returns-clause-is_bad
returns-clause-is_bad g c = λ bytes at reads bad.
    let exact : c.in_ok-size.size ≡ length bytes = large_size (g.D.Disk.told c.args.disk.now) c.args.file c.in_ok-size.size bytes reads c.in_ok-size.ensures.ok in
    let again : ReadsFile (g.D.Disk.told c.length.new.self) c.args.file bytes = subst (λ told. ReadsFile told c.args.file bytes) (sym c.length.ensures.same) reads in
    found_not_bad c.in_ok-extent.extent.sizes bytes at (c.in_ok-extent.ensures.found bytes again exact) bad

pub returns-clause-keeps : goal.returns-clause-keeps
returns-clause-keeps g c = λ bytes bodies stored log.
    let reads : ReadsFile (g.D.Disk.told c.args.disk.now) c.args.file bytes = stored_reads (g.D.Disk.told c.args.disk.now) c.args.file bytes stored in
    let same : g.D.Disk.told c.find_records.new.disk ≡ g.D.Disk.told c.args.disk.now = c.find_records.ensures.same ∙ c.length.ensures.same in
    let exact : c.in_ok-size.size ≡ length bytes = large_size (g.D.Disk.told c.args.disk.now) c.args.file c.in_ok-size.size bytes reads c.in_ok-size.ensures.ok in
    let again : ReadsFile (g.D.Disk.told c.length.new.self) c.args.file bytes = subst (λ told. ReadsFile told c.args.file bytes) (sym c.length.ensures.same) reads in
    let made : RecordLog = record { file = c.args.file; limit = c.args.limit; extent = c.in_ok-extent.extent } in
    subst (λ told. KeepsRecords made told bodies) (sym same) (large_keeps (g.D.Disk.told c.args.disk.now) made bytes bodies stored (omega (arith, exact, c.if-size-le1.false)) log)

pub returns-in_err-write_through-clause-fresh : goal.returns-in_err-write_through-clause-fresh
returns-in_err-write_through-clause-fresh g c = λ fresh.
    on_any_err c.from_residual-in_err-write_through.result _ _ c.from_residual-in_err-write_through.ensures.0
    (λ fault. failed_fresh c.args.file (g.D.Disk.told c.args.disk.now) (g.D.Disk.told c.write_through.new.disk) fresh
    (subst (λ told. IsPerhapsWritten c.args.file 0 1 told (g.D.Disk.told c.write_through.new.disk)) c.length.ensures.same c.in_err-write_through.ensures.err))

pub returns-in_err-write_through-clause-fresh_moments : goal.returns-in_err-write_through-clause-fresh_moments
returns-in_err-write_through-clause-fresh_moments g c = λ fresh.
    failed_fresh_moments c.args.file (g.D.Disk.told c.args.disk.now) (g.D.Disk.told c.write_through.new.disk) fresh
    (subst (λ told. IsPerhapsWritten c.args.file 0 1 told (g.D.Disk.told c.write_through.new.disk)) c.length.ensures.same c.in_err-write_through.ensures.err)

pub returns-then-size-le1-clause-carries : goal.returns-then-size-le1-clause-carries
returns-then-size-le1-clause-carries g c = λ bytes bodies stored log.
    let made : RecordLog = record { file = c.args.file; limit = c.args.limit; extent = c.new.result } in
    let reads : ReadsFile (g.D.Disk.told c.args.disk.now) c.args.file bytes = stored_reads (g.D.Disk.told c.args.disk.now) c.args.file bytes stored in
    start_carries made (g.D.Disk.told c.args.disk.now) (g.D.Disk.told c.write_through.new.disk) c.args.file bytes bodies stored (returns-then-size-le1-clause-others g c)
    (returns-then-size-le1-clause-records g c bytes bodies reads log) (returns-then-size-le1-clause-keeps g c bytes bodies stored log)

pub returns-then-size-le1-clause-fresh : goal.returns-then-size-le1-clause-fresh
returns-then-size-le1-clause-fresh g c = λ fresh.
    let made : RecordLog = record { file = c.args.file; limit = c.args.limit; extent = c.new.result } in
    fresh_carries made (g.D.Disk.told c.args.disk.now) (g.D.Disk.told c.write_through.new.disk) (g.met.D.Disk.sound c.args.disk.now) (g.met.D.Disk.sound c.write_through.new.disk) fresh
    (subst (λ told. IsWrittenThrough c.args.file 0 (0 ∷ []) told (g.D.Disk.told c.write_through.new.disk)) c.length.ensures.same c.in_ok-write_through.ensures.ok)
    (ap (λ (extent : LogSizes). extent.stage) c.new.ensures) (ap (λ (extent : LogSizes). extent.sizes) c.new.ensures)

pub returns-then-size-le1-clause-fresh_moments : goal.returns-then-size-le1-clause-fresh_moments
returns-then-size-le1-clause-fresh_moments g c = λ fresh.
    fresh_moments c.args.file (g.D.Disk.told c.args.disk.now) (g.D.Disk.told c.write_through.new.disk) (g.met.D.Disk.sound c.args.disk.now) fresh
    (subst (λ told. IsWrittenThrough c.args.file 0 (0 ∷ []) told (g.D.Disk.told c.write_through.new.disk)) c.length.ensures.same c.in_ok-write_through.ensures.ok)

pub returns-in_err-extent-clause-fresh : goal.returns-in_err-extent-clause-fresh
returns-in_err-extent-clause-fresh g c = λ fresh.
    let few = fresh_small (g.D.Disk.told c.args.disk.now) c.args.file c.in_ok-size.size (g.met.D.Disk.sound c.args.disk.now) fresh c.in_ok-size.ensures.ok in
    absurd (omega (arith, few, c.if-size-le1.false))

pub returns-in_err-extent-clause-fresh_moments : goal.returns-in_err-extent-clause-fresh_moments
returns-in_err-extent-clause-fresh_moments g c = λ fresh.
    moments_same c.args.file IsTiny (g.D.Disk.told c.args.disk.now) (g.D.Disk.told c.find_records.new.disk) (c.find_records.ensures.same ∙ c.length.ensures.same)

pub returns-clause-carries : goal.returns-clause-carries
returns-clause-carries g c = λ bytes bodies stored log.
    let made : RecordLog = record { file = c.args.file; limit = c.args.limit; extent = c.in_ok-extent.extent } in
    let reads : ReadsFile (g.D.Disk.told c.args.disk.now) c.args.file bytes = stored_reads (g.D.Disk.told c.args.disk.now) c.args.file bytes stored in
    start_carries made (g.D.Disk.told c.args.disk.now) (g.D.Disk.told c.find_records.new.disk) c.args.file bytes bodies stored
    (moments_same c.args.file Nothing (g.D.Disk.told c.args.disk.now) (g.D.Disk.told c.find_records.new.disk) (c.find_records.ensures.same ∙ c.length.ensures.same))
    (returns-clause-records g c bytes bodies reads log) (returns-clause-keeps g c bytes bodies stored log)

pub returns-clause-fresh : goal.returns-clause-fresh
returns-clause-fresh g c = λ fresh.
    let few = fresh_small (g.D.Disk.told c.args.disk.now) c.args.file c.in_ok-size.size (g.met.D.Disk.sound c.args.disk.now) fresh c.in_ok-size.ensures.ok in
    absurd (omega (arith, few, c.if-size-le1.false))

pub returns-clause-fresh_moments : goal.returns-clause-fresh_moments
returns-clause-fresh_moments g c = λ fresh.
    moments_same c.args.file IsTiny (g.D.Disk.told c.args.disk.now) (g.D.Disk.told c.find_records.new.disk) (c.find_records.ensures.same ∙ c.length.ensures.same)
