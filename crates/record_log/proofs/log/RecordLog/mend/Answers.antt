use Rattle.std.proofs.Common.{ℕ, IsTrue, true, ◌++◌, ◌∷◌, [], subst, sym, arith, rules}
use Rattle.record_log.specs.Logs.{end_of, needs_mend, IsFull, HasRecords, KeepsRecords}
use Rattle.record_log.specs.Sizes.{LogSizes}
use Rattle.disk_core.specs.Disk.{IsSynced}
use Rattle.record_log.specs.Gates.{IsOpenAt}
use Rattle.record_log.specs.Steps.{IsClosed, IsPerhapsClosed}
use Rattle.record_log.proofs.Extents.{kept_end}
use Rattle.record_log.proofs.Carrying.{mend_in, mend_out, mend_still, mend_leaves}
use Rattle.record_log.proofs.Moving.{others_synced}
use Rattle.record_log.proofs.Putting.{on_err, on_any_err}
use Rattle.record_log.proofs.Mending.{moments_in, has_in, keeps_in, others_closed, others_perhaps_closed, moments_out, has_out, keeps_out, moments_again, undecided_again}
use Rattle.record_log.proofs.log.RecordLog.mend.Goals as goal

pub returns-then-branch-clause-others : goal.returns-then-branch-clause-others
returns-then-branch-clause-others g c =
    others_synced c.args.self.now.file (g.D.Disk.told c.args.disk.now) (g.D.Disk.told c.sync.new.self)
    (subst (λ told. IsSynced c.args.self.now.file told (g.D.Disk.told c.sync.new.self)) c.is_open_at.ensures.same c.in_ok-sync.ensures.ok)

pub returns-then-branch-clause-moments : goal.returns-then-branch-clause-moments
returns-then-branch-clause-moments g c = λ bodies body undecided.
    moments_in c.args.self.now (g.D.Disk.told c.args.disk.now) (g.D.Disk.told c.sync.new.self) bodies body (g.met.D.Disk.sound c.args.disk.now) undecided
    (subst (λ (at : ℕ). IsOpenAt (g.D.Disk.told c.args.disk.now) c.args.self.now.file at true) c.end.ensures (subst (IsOpenAt (g.D.Disk.told c.args.disk.now) c.args.self.now.file c.end.result) c.if-branch.true c.in_ok-is_open_at.ensures.gate))
    (subst (λ told. IsSynced c.args.self.now.file told (g.D.Disk.told c.sync.new.self)) c.is_open_at.ensures.same c.in_ok-sync.ensures.ok)

pub returns-then-branch-clause-decided : goal.returns-then-branch-clause-decided
returns-then-branch-clause-decided g c = λ bodies body undecided.
    subst (λ (extent : LogSizes). HasRecords (record c.args.self.now { extent = extent }) (g.D.Disk.told c.sync.new.self) (bodies ++ body ∷ [])) (sym c.keep.ensures)
    (has_in c.args.self.now (g.D.Disk.told c.args.disk.now) (g.D.Disk.told c.sync.new.self) bodies body (g.met.D.Disk.sound c.args.disk.now) (g.met.D.Disk.sound c.sync.new.self) undecided
    (subst (λ (at : ℕ). IsOpenAt (g.D.Disk.told c.args.disk.now) c.args.self.now.file at true) c.end.ensures (subst (IsOpenAt (g.D.Disk.told c.args.disk.now) c.args.self.now.file c.end.result) c.if-branch.true c.in_ok-is_open_at.ensures.gate))
    (subst (λ told. IsSynced c.args.self.now.file told (g.D.Disk.told c.sync.new.self)) c.is_open_at.ensures.same c.in_ok-sync.ensures.ok))

pub returns-then-branch-clause-keeps : goal.returns-then-branch-clause-keeps
returns-then-branch-clause-keeps g c = λ bodies body undecided.
    subst (λ (extent : LogSizes). KeepsRecords (record c.args.self.now { extent = extent }) (g.D.Disk.told c.sync.new.self) (bodies ++ body ∷ [])) (sym c.keep.ensures)
    (keeps_in c.args.self.now (g.D.Disk.told c.args.disk.now) (g.D.Disk.told c.sync.new.self) bodies body (g.met.D.Disk.sound c.args.disk.now) undecided
    (subst (λ (at : ℕ). IsOpenAt (g.D.Disk.told c.args.disk.now) c.args.self.now.file at true) c.end.ensures (subst (IsOpenAt (g.D.Disk.told c.args.disk.now) c.args.self.now.file c.end.result) c.if-branch.true c.in_ok-is_open_at.ensures.gate))
    (subst (λ told. IsSynced c.args.self.now.file told (g.D.Disk.told c.sync.new.self)) c.is_open_at.ensures.same c.in_ok-sync.ensures.ok))

pub returns-then-branch-clause-carries : goal.returns-then-branch-clause-carries
returns-then-branch-clause-carries g c = λ bodies waiting carried.
    let needs : IsTrue (needs_mend c.args.self.now) = search rules in
    mend_in c.args.self.now (record c.args.self.now { extent = c.keep.new.self }) (g.D.Disk.told c.args.disk.now) (g.D.Disk.told c.sync.new.self) bodies waiting needs carried (returns-then-branch-clause-others g c)
    (returns-then-branch-clause-decided g c bodies) (returns-then-branch-clause-keeps g c bodies)

pub returns-then-branch-clause-leaves : goal.returns-then-branch-clause-leaves
returns-then-branch-clause-leaves g c = λ bodies waiting carried.
    let needs : IsTrue (needs_mend c.args.self.now) = search rules in
    mend_leaves c.args.self.now (g.D.Disk.told c.args.disk.now) (g.D.Disk.told c.sync.new.self) bodies waiting needs carried (returns-then-branch-clause-moments g c bodies)

pub returns-in_err-close_gate-clause-others : goal.returns-in_err-close_gate-clause-others
returns-in_err-close_gate-clause-others g c =
    others_perhaps_closed c.args.self.now.extent.stage c.args.self.now.file (end_of c.args.self.now) (g.D.Disk.told c.args.disk.now) (g.D.Disk.told c.close_gate.new.disk)
    (subst (λ told. IsPerhapsClosed c.args.self.now.extent.stage c.args.self.now.file (end_of c.args.self.now) told (g.D.Disk.told c.close_gate.new.disk)) c.is_open_at.ensures.same c.in_err-close_gate.ensures.err)

pub returns-in_err-close_gate-clause-moments : goal.returns-in_err-close_gate-clause-moments
returns-in_err-close_gate-clause-moments g c = λ bodies body undecided.
    moments_again c.args.self.now (g.D.Disk.told c.args.disk.now) (g.D.Disk.told c.close_gate.new.disk) bodies body (g.met.D.Disk.sound c.args.disk.now) undecided
    (subst (λ told. IsPerhapsClosed c.args.self.now.extent.stage c.args.self.now.file (end_of c.args.self.now) told (g.D.Disk.told c.close_gate.new.disk)) c.is_open_at.ensures.same c.in_err-close_gate.ensures.err)

pub returns-in_err-close_gate-clause-undecided : goal.returns-in_err-close_gate-clause-undecided
returns-in_err-close_gate-clause-undecided g c = λ bodies body undecided.
    on_err c.from_residual-in_err-close_gate.result _
    (undecided_again c.args.self.now (g.D.Disk.told c.args.disk.now) (g.D.Disk.told c.close_gate.new.disk) bodies body (g.met.D.Disk.sound c.args.disk.now) undecided
    (subst (λ told. IsPerhapsClosed c.args.self.now.extent.stage c.args.self.now.file (end_of c.args.self.now) told (g.D.Disk.told c.close_gate.new.disk)) c.is_open_at.ensures.same c.in_err-close_gate.ensures.err))

pub returns-in_err-close_gate-clause-carries : goal.returns-in_err-close_gate-clause-carries
returns-in_err-close_gate-clause-carries g c = λ bodies waiting carried.
    let needs : IsTrue (needs_mend c.args.self.now) = search rules in
    on_any_err c.from_residual-in_err-close_gate.result _ _ c.from_residual-in_err-close_gate.ensures.0
    (λ fault. mend_still c.args.self.now c.args.self.now (g.D.Disk.told c.args.disk.now) (g.D.Disk.told c.close_gate.new.disk) bodies waiting needs carried (returns-in_err-close_gate-clause-others g c)
    (λ body undecided. undecided_again c.args.self.now (g.D.Disk.told c.args.disk.now) (g.D.Disk.told c.close_gate.new.disk) bodies body (g.met.D.Disk.sound c.args.disk.now) undecided
    (subst (λ told. IsPerhapsClosed c.args.self.now.extent.stage c.args.self.now.file (end_of c.args.self.now) told (g.D.Disk.told c.close_gate.new.disk)) c.is_open_at.ensures.same c.in_err-close_gate.ensures.err)))

pub returns-in_err-close_gate-clause-leaves : goal.returns-in_err-close_gate-clause-leaves
returns-in_err-close_gate-clause-leaves g c = λ bodies waiting carried.
    let needs : IsTrue (needs_mend c.args.self.now) = search rules in
    mend_leaves c.args.self.now (g.D.Disk.told c.args.disk.now) (g.D.Disk.told c.close_gate.new.disk) bodies waiting needs carried (returns-in_err-close_gate-clause-moments g c bodies)

pub returns-clause-others : goal.returns-clause-others
returns-clause-others g c =
    others_closed c.args.self.now.extent.stage c.args.self.now.file (end_of c.args.self.now) (g.D.Disk.told c.args.disk.now) (g.D.Disk.told c.close_gate.new.disk)
    (subst (λ told. IsClosed c.args.self.now.extent.stage c.args.self.now.file (end_of c.args.self.now) told (g.D.Disk.told c.close_gate.new.disk)) c.is_open_at.ensures.same c.in_ok-close_gate.ensures.ok)

pub returns-clause-moments : goal.returns-clause-moments
returns-clause-moments g c = λ bodies body undecided.
    moments_out c.args.self.now (g.D.Disk.told c.args.disk.now) (g.D.Disk.told c.close_gate.new.disk) bodies body (g.met.D.Disk.sound c.args.disk.now) undecided
    (subst (λ told. IsClosed c.args.self.now.extent.stage c.args.self.now.file (end_of c.args.self.now) told (g.D.Disk.told c.close_gate.new.disk)) c.is_open_at.ensures.same c.in_ok-close_gate.ensures.ok)

pub returns-clause-decided : goal.returns-clause-decided
returns-clause-decided g c = λ bodies body undecided.
    subst (λ (extent : LogSizes). HasRecords (record c.args.self.now { extent = extent }) (g.D.Disk.told c.close_gate.new.disk) bodies) (sym c.leave_out.ensures)
    (has_out c.args.self.now (g.D.Disk.told c.args.disk.now) (g.D.Disk.told c.close_gate.new.disk) bodies body (g.met.D.Disk.sound c.args.disk.now) (g.met.D.Disk.sound c.close_gate.new.disk) undecided
    (subst (λ told. IsClosed c.args.self.now.extent.stage c.args.self.now.file (end_of c.args.self.now) told (g.D.Disk.told c.close_gate.new.disk)) c.is_open_at.ensures.same c.in_ok-close_gate.ensures.ok))

pub returns-clause-keeps : goal.returns-clause-keeps
returns-clause-keeps g c = λ bodies body undecided.
    subst (λ (extent : LogSizes). KeepsRecords (record c.args.self.now { extent = extent }) (g.D.Disk.told c.close_gate.new.disk) bodies) (sym c.leave_out.ensures)
    (keeps_out c.args.self.now (g.D.Disk.told c.args.disk.now) (g.D.Disk.told c.close_gate.new.disk) bodies body (g.met.D.Disk.sound c.args.disk.now) undecided
    (subst (λ told. IsClosed c.args.self.now.extent.stage c.args.self.now.file (end_of c.args.self.now) told (g.D.Disk.told c.close_gate.new.disk)) c.is_open_at.ensures.same c.in_ok-close_gate.ensures.ok))

pub returns-clause-carries : goal.returns-clause-carries
returns-clause-carries g c = λ bodies waiting carried.
    let needs : IsTrue (needs_mend c.args.self.now) = search rules in
    mend_out c.args.self.now (record c.args.self.now { extent = c.leave_out.new.self }) (g.D.Disk.told c.args.disk.now) (g.D.Disk.told c.close_gate.new.disk) bodies waiting needs carried (returns-clause-others g c)
    (returns-clause-decided g c bodies) (returns-clause-keeps g c bodies)

pub returns-clause-leaves : goal.returns-clause-leaves
returns-clause-leaves g c = λ bodies waiting carried.
    let needs : IsTrue (needs_mend c.args.self.now) = search rules in
    mend_leaves c.args.self.now (g.D.Disk.told c.args.disk.now) (g.D.Disk.told c.close_gate.new.disk) bodies waiting needs carried (returns-clause-moments g c bodies)

pub returns-then-branch-clause-full : goal.returns-then-branch-clause-full
returns-then-branch-clause-full g c = λ size is_full.
    let sizes = c.args.self.now.extent.sizes in
    let stage = c.args.self.now.extent.stage in
    let full = subst (λ (extent : LogSizes). IsFull (record c.args.self.now { extent = extent }) size) c.keep.ensures is_full in
    omega (arith, full, kept_end sizes stage)

pub returns-clause-full : goal.returns-clause-full
returns-clause-full g c = λ size is_full.
    let full = subst (λ (extent : LogSizes). IsFull (record c.args.self.now { extent = extent }) size) c.leave_out.ensures is_full in
    omega (arith, full)
