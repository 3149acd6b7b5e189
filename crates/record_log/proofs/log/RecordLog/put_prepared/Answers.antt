use Rattle.std.proofs.Common.{◌∷◌, ◌++◌, [], None}
use Rattle.std.proofs.lemmas.Result.{err_from_is_err_and}
use Rattle.record_log.proofs.Putting.{ready_from}
use Rattle.record_log.proofs.Carrying.{carried_has, carried_keeps, settle, unsettle, moments_decide}
use Rattle.record_log.proofs.log.RecordLog.put_prepared.Goals as goal

pub returns-in_err-write_record-clause-moments : goal.returns-in_err-write_record-clause-moments
returns-in_err-write_record-clause-moments g c = λ bodies has keeps.
    c.write_record.ensures.moments bodies c.args.prepared.now c.size-size.ensures
    (ready_from c.args.self.now (g.D.Disk.told c.args.disk.now) bodies c.args.prepared.now c.bytes.result.now has c.bytes.ensures.short c.bytes.ensures.are) keeps

pub returns-in_err-write_record-clause-undecided : goal.returns-in_err-write_record-clause-undecided
returns-in_err-write_record-clause-undecided g c = λ bodies has keeps failed.
    c.in_err-write_record.ensures.undecided bodies c.args.prepared.now c.size-size.ensures
    (ready_from c.args.self.now (g.D.Disk.told c.args.disk.now) bodies c.args.prepared.now c.bytes.result.now has c.bytes.ensures.short c.bytes.ensures.are) keeps

pub returns-in_err-write_record-clause-carries : goal.returns-in_err-write_record-clause-carries
returns-in_err-write_record-clause-carries g c = λ bodies carried.
    let p = err_from_is_err_and c.from_residual.result c.from_residual.ensures.1 in
    let has = carried_has c.args.self.now (g.D.Disk.told c.args.disk.now) bodies carried in
    let keeps = carried_keeps c.args.self.now (g.D.Disk.told c.args.disk.now) bodies carried in
    let undecided = c.in_err-write_record.ensures.undecided bodies c.args.prepared.now c.size-size.ensures
    (ready_from c.args.self.now (g.D.Disk.told c.args.disk.now) bodies c.args.prepared.now c.bytes.result.now has c.bytes.ensures.short c.bytes.ensures.are) keeps in
    rw (p.1, p.2)
    (unsettle c.args.self.now c.write_record.new.self (g.D.Disk.told c.args.disk.now) (g.D.Disk.told c.write_record.new.disk) c.args.self.now.file bodies None bodies
    c.args.prepared.now carried c.write_record.ensures.others undecided)

pub returns-in_err-write_record-clause-leaves : goal.returns-in_err-write_record-clause-leaves
returns-in_err-write_record-clause-leaves g c = λ bodies carried.
    moments_decide c.args.self.now.file bodies c.args.prepared.now (g.D.Disk.told c.args.disk.now) (g.D.Disk.told c.write_record.new.disk)
    (returns-in_err-write_record-clause-moments g c bodies (carried_has c.args.self.now (g.D.Disk.told c.args.disk.now) bodies carried)
    (carried_keeps c.args.self.now (g.D.Disk.told c.args.disk.now) bodies carried))

pub returns-clause-records : goal.returns-clause-records
returns-clause-records g c = λ bodies has.
    c.in_ok-write_record.ensures.records bodies c.args.prepared.now c.size-size.ensures
    (ready_from c.args.self.now (g.D.Disk.told c.args.disk.now) bodies c.args.prepared.now c.bytes.result.now has c.bytes.ensures.short c.bytes.ensures.are)

pub returns-clause-keeps : goal.returns-clause-keeps
returns-clause-keeps g c = λ bodies has.
    c.in_ok-write_record.ensures.keeps bodies c.args.prepared.now c.size-size.ensures
    (ready_from c.args.self.now (g.D.Disk.told c.args.disk.now) bodies c.args.prepared.now c.bytes.result.now has c.bytes.ensures.short c.bytes.ensures.are)

pub returns-clause-moments : goal.returns-clause-moments
returns-clause-moments g c = λ bodies has keeps.
    c.write_record.ensures.moments bodies c.args.prepared.now c.size-size.ensures
    (ready_from c.args.self.now (g.D.Disk.told c.args.disk.now) bodies c.args.prepared.now c.bytes.result.now has c.bytes.ensures.short c.bytes.ensures.are) keeps

pub returns-clause-carries : goal.returns-clause-carries
returns-clause-carries g c = λ bodies carried.
    let has = carried_has c.args.self.now (g.D.Disk.told c.args.disk.now) bodies carried in
    settle c.args.self.now c.write_record.new.self (g.D.Disk.told c.args.disk.now) (g.D.Disk.told c.write_record.new.disk) c.args.self.now.file bodies None
    (bodies ++ c.args.prepared.now ∷ []) carried c.write_record.ensures.others (returns-clause-records g c bodies has) (returns-clause-keeps g c bodies has)

pub returns-clause-leaves : goal.returns-clause-leaves
returns-clause-leaves g c = λ bodies carried.
    moments_decide c.args.self.now.file bodies c.args.prepared.now (g.D.Disk.told c.args.disk.now) (g.D.Disk.told c.write_record.new.disk)
    (returns-clause-moments g c bodies (carried_has c.args.self.now (g.D.Disk.told c.args.disk.now) bodies carried)
    (carried_keeps c.args.self.now (g.D.Disk.told c.args.disk.now) bodies carried))
