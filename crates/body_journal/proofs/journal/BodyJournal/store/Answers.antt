use Rattle.std.proofs.Common.{◌≡◌, ℕ, List, ◌++◌, false, Ok, subst}
use Rattle.record_log.specs.Devices.{ChangesOnly}
use Rattle.record_log.specs.Logs.{needs_mend, file_of}
use Rattle.record_log.proofs.Moving.{moments_further}
use Rattle.body_journal.specs.Stores.{Stores}
use Rattle.body_journal.proofs.Flushing.{stored_by, left_by, full_same, stores_at}
use Rattle.body_journal.proofs.Storing.{keep_further}
use Rattle.body_journal.proofs.journal.BodyJournal.store.Goals as goal

pub returns-clause-put : goal.returns-clause-put
returns-clause-put g c =
    let mended : needs_mend c.args.self.now.log ≡ false → c.in_ok-settle.field-0 ≡ false = λ settled. let same : Ok c.in_ok-settle.field-0 ≡ Ok false = (c.in_ok-settle.ensures.not_needed settled).0 in cc in
    stored_by c.put_group.result c.args.self.now c.settle.new.self c.put_group.new.self c.args.serial c.args.body.now c.in_ok-settle.field-0 mended c.in_ok-settle.ensures.held
    c.in_ok-settle.ensures.stored c.in_ok-settle.ensures.sizes c.in_ok-settle.ensures.unmarked c.put_group.ensures.before c.put_group.ensures.put
    c.in_ok-settle.ensures.members c.put_group.ensures.known

pub returns-clause-left : goal.returns-clause-left
returns-clause-left g c =
    let mended : needs_mend c.args.self.now.log ≡ false → c.in_ok-settle.field-0 ≡ false = λ settled. let same : Ok c.in_ok-settle.field-0 ≡ Ok false = (c.in_ok-settle.ensures.not_needed settled).0 in cc in
    left_by c.put_group.result c.args.self.now c.settle.new.self c.put_group.new.self c.in_ok-settle.field-0 mended c.in_ok-settle.ensures.held c.put_group.ensures.queue
    c.in_ok-settle.ensures.members c.put_group.ensures.known

pub returns-clause-full : goal.returns-clause-full
returns-clause-full g c = λ settled.
    let same : Ok c.in_ok-settle.field-0 ≡ Ok false = (c.in_ok-settle.ensures.not_needed settled).0 in
    let none : c.in_ok-settle.field-0 ≡ false = cc in
    full_same c.put_group.result c.args.self.now c.settle.new.self c.args.serial c.args.body.now c.in_ok-settle.field-0 none (c.in_ok-settle.ensures.not_needed settled).1
    c.in_ok-settle.ensures.held c.put_group.ensures.full

pub returns-clause-stores : goal.returns-clause-stores
returns-clause-stores g c = λ bodies stores.
    let found : (more : List (List ℕ)) × Stores (g.D.Disk.told c.settle.new.disk) c.settle.new.self (bodies ++ more) = c.in_ok-settle.ensures.stores bodies stores in
    stores_at c.put_group.result (g.D.Disk.told c.settle.new.disk) (g.D.Disk.told c.put_group.new.disk) c.settle.new.self c.put_group.new.self bodies found.0 c.args.body.now found.1
    c.put_group.ensures.before (c.put_group.ensures.stores (bodies ++ found.0) found.1)

pub returns-clause-moments : goal.returns-clause-moments
returns-clause-moments g c = λ bodies stores.
    let found : (more : List (List ℕ)) × Stores (g.D.Disk.told c.settle.new.disk) c.settle.new.self (bodies ++ more) = c.in_ok-settle.ensures.stores bodies stores in
    keep_further bodies found.0 (g.D.Disk.told c.args.disk.now) (g.D.Disk.told c.settle.new.disk) (g.D.Disk.told c.put_group.new.disk) (c.in_ok-settle.ensures.moments bodies stores)
    (c.put_group.ensures.moments (bodies ++ found.0) found.1)

pub returns-clause-known : goal.returns-clause-known
returns-clause-known g c = λ serial bytes before has. c.put_group.ensures.known serial bytes before (c.in_ok-settle.ensures.known serial bytes before has)

pub returns-clause-others : goal.returns-clause-others
returns-clause-others g c =
    moments_further (file_of c.args.self.now.log) (λ image. Unit {0}) (g.D.Disk.told c.args.disk.now) (g.D.Disk.told c.settle.new.disk) (g.D.Disk.told c.put_group.new.disk) c.in_ok-settle.ensures.others
    (subst (λ (file : ℕ). ChangesOnly file (g.D.Disk.told c.settle.new.disk) (g.D.Disk.told c.put_group.new.disk)) c.in_ok-settle.ensures.file c.put_group.ensures.others)
