use Rattle.std.proofs.Common.{Bool, Err, sym, ap, subst}
use Rattle.record_log.specs.Items.{Decides}
use Rattle.commit_core.specs.Rooms.{Room}
use Rattle.commit_core.specs.Records.{IsCommitOf, LogLeaves}
use Rattle.commit_core.specs.Steps.{SettleStep}
use Rattle.commit_core.specs.Ledgers.{room_of}
use Rattle.commit_core.proofs.Deciding.{settle_err}
use Rattle.commit_core.proofs.RowsKept.{settle_rows}
use Rattle.commit_core.proofs.state.CommitState.settle.Goals as goal

pub returns-in-Err-clause-step : goal.returns-in-Err-clause-step
returns-in-Err-clause-step g c =
    let i = c.self.inside in
    let q = c.decide.new.self in
    settle_err (Unit {0}) g.D.Disk.fault_count _ _ c.in-Err.fault
    (subst (λ (r : Room _). SettleStep g.D.Disk.fault_count {T = Bool} r (room_of q.ledger q.disk q.log i.most) (Err c.in-Err.fault)) c.self.view_is (c.in-Err.ensures.step i.most))

pub returns-in-Err-clause-carries : goal.returns-in-Err-clause-carries
returns-in-Err-clause-carries g c = λ entries waiting is.
    let i = c.self.inside in
    c.in-Err.ensures.carries i.most entries waiting (subst (λ (r : Room _). IsCommitOf (g.D.Disk.told r.disk) r entries waiting) (sym c.self.view_is) is)

pub returns-in-Err-clause-leaves : goal.returns-in-Err-clause-leaves
returns-in-Err-clause-leaves g c = λ entries waiting is.
    let i = c.self.inside in
    subst (λ d. LogLeaves (Decides entries waiting) (g.D.Disk.told d) (g.D.Disk.told c.decide.new.self.disk)) (ap (λ (r : Room _). r.disk) c.self.view_is)
    (c.decide.ensures.leaves i.most entries waiting (subst (λ (r : Room _). IsCommitOf (g.D.Disk.told r.disk) r entries waiting) (sym c.self.view_is) is))

pub returns-clause-leaves : goal.returns-clause-leaves
returns-clause-leaves g c = λ entries waiting is.
    let i = c.self.inside in
    subst (λ d. LogLeaves (Decides entries waiting) (g.D.Disk.told d) (g.D.Disk.told c.decide.new.self.disk)) (ap (λ (r : Room _). r.disk) c.self.view_is)
    (c.decide.ensures.leaves i.most entries waiting (subst (λ (r : Room _). IsCommitOf (g.D.Disk.told r.disk) r entries waiting) (sym c.self.view_is) is))

pub returns-in-Err-clause-rows : goal.returns-in-Err-clause-rows
returns-in-Err-clause-rows g c = λ have.
    let i = c.self.inside in
    let q = c.decide.new.self in
    settle_rows {T = Bool} c.grown_entries_law.ensures g.D.Disk.fault_count c.args.self.now (room_of q.ledger q.disk q.log i.most) c.decide.result
    (subst (λ (r : Room _). SettleStep g.D.Disk.fault_count {T = Bool} r (room_of q.ledger q.disk q.log i.most) c.decide.result) c.self.view_is (c.decide.ensures.step i.most)) have

pub returns-clause-rows : goal.returns-clause-rows
returns-clause-rows g c = λ have.
    let i = c.self.inside in
    let q = c.decide.new.self in
    settle_rows {T = Bool} c.grown_entries_law.ensures g.D.Disk.fault_count c.args.self.now (room_of q.ledger q.disk q.log i.most) c.decide.result
    (subst (λ (r : Room _). SettleStep g.D.Disk.fault_count {T = Bool} r (room_of q.ledger q.disk q.log i.most) c.decide.result) c.self.view_is (c.decide.ensures.step i.most)) have
