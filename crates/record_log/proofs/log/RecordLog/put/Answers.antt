use Rattle.std.proofs.Common.{◌∷◌, ◌++◌, [], ℕ, List, None, Some, OnOk, subst}
use Rattle.record_log.specs.Devices.{MomentsHave}
use Rattle.record_log.specs.Items.{Decides, LogsSome, IsPut}
use Rattle.record_log.specs.Logs.{HasRecords, KeepsRecords, IsUndecided, IsEitherLog}
use Rattle.record_log.proofs.Carrying.{same_has, same_keeps}
use Rattle.record_log.proofs.log.RecordLog.put.Goals as goal

pub returns-clause-records : goal.returns-clause-records
returns-clause-records g c = λ bodies has.
    subst (λ (body : List ℕ). OnOk c.put_prepared.result (HasRecords c.put_prepared.new.self (g.D.Disk.told c.put_prepared.new.disk) (bodies ++ body ∷ []))) c.in_ok-prepared.ensures.body
    (c.put_prepared.ensures.records bodies (same_has c.args.self.now c.prepare.new.self (g.D.Disk.told c.args.disk.now) bodies c.prepare.ensures.same has))

pub returns-clause-keeps : goal.returns-clause-keeps
returns-clause-keeps g c = λ bodies has.
    subst (λ (body : List ℕ). OnOk c.put_prepared.result (KeepsRecords c.put_prepared.new.self (g.D.Disk.told c.put_prepared.new.disk) (bodies ++ body ∷ []))) c.in_ok-prepared.ensures.body
    (c.put_prepared.ensures.keeps bodies (same_has c.args.self.now c.prepare.new.self (g.D.Disk.told c.args.disk.now) bodies c.prepare.ensures.same has))

pub returns-clause-moments : goal.returns-clause-moments
returns-clause-moments g c = λ bodies has keeps.
    subst (λ (file : ℕ). MomentsHave file (IsEitherLog bodies c.args.body.now) (g.D.Disk.told c.args.disk.now) (g.D.Disk.told c.put_prepared.new.disk)) c.prepare.ensures.same.file
    (subst (λ (body : List ℕ). MomentsHave c.prepare.new.self.file (IsEitherLog bodies body) (g.D.Disk.told c.args.disk.now) (g.D.Disk.told c.put_prepared.new.disk)) c.in_ok-prepared.ensures.body
    (c.put_prepared.ensures.moments bodies (same_has c.args.self.now c.prepare.new.self (g.D.Disk.told c.args.disk.now) bodies c.prepare.ensures.same has)
    (same_keeps c.args.self.now c.prepare.new.self (g.D.Disk.told c.args.disk.now) bodies c.prepare.ensures.same keeps)))

pub returns-clause-undecided : goal.returns-clause-undecided
returns-clause-undecided g c = λ bodies has keeps failed.
    subst (λ (body : List ℕ). IsUndecided c.put_prepared.new.self (g.D.Disk.told c.put_prepared.new.disk) bodies body) c.in_ok-prepared.ensures.body
    (c.put_prepared.ensures.undecided bodies (same_has c.args.self.now c.prepare.new.self (g.D.Disk.told c.args.disk.now) bodies c.prepare.ensures.same has)
    (same_keeps c.args.self.now c.prepare.new.self (g.D.Disk.told c.args.disk.now) bodies c.prepare.ensures.same keeps) failed)

pub returns-clause-carries : goal.returns-clause-carries
returns-clause-carries g c = λ bodies carried.
    subst (λ (body : List ℕ). IsPut c.put_prepared.new.self (g.D.Disk.told c.put_prepared.new.disk) bodies body c.put_prepared.result) c.in_ok-prepared.ensures.body
    (c.put_prepared.ensures.carries bodies (c.prepare.ensures.carries (g.D.Disk.told c.args.disk.now) bodies None carried))

pub returns-clause-leaves : goal.returns-clause-leaves
returns-clause-leaves g c = λ bodies carried.
    subst (λ (file : ℕ). MomentsHave file (LogsSome (Decides bodies (Some c.args.body.now))) (g.D.Disk.told c.args.disk.now) (g.D.Disk.told c.put_prepared.new.disk)) c.prepare.ensures.same.file
    (subst (λ (body : List ℕ). MomentsHave c.prepare.new.self.file (LogsSome (Decides bodies (Some body))) (g.D.Disk.told c.args.disk.now) (g.D.Disk.told c.put_prepared.new.disk)) c.in_ok-prepared.ensures.body
    (c.put_prepared.ensures.leaves bodies (c.prepare.ensures.carries (g.D.Disk.told c.args.disk.now) bodies None carried)))
