use Rattle.std.proofs.Common.{◌≡◌, ℕ, List, ◌++◌, false, Ok, map, option_map, sym, subst, min, ◌+◌, ◌-◌, ◌^◌}
use Rattle.record_log.proofs.Items.{mend_items, moments_items}
use Rattle.record_log.specs.Logs.{needs_mend}
use Rattle.record_log.specs.declared.fault.LogFault.{LogFault}
use Rattle.record_log.specs.declared.log.RecordLog.{RecordLog}
use Rattle.body_journal.specs.Groups.{group_bytes}
use Rattle.body_journal.specs.declared.held.Held.{Held}
use Rattle.body_journal.specs.Marks.{AreUnmarked}
use Rattle.body_journal.specs.Stores.{StoresIn}
use Rattle.body_journal.proofs.Flushing.{mend_err}
use Rattle.body_journal.specs.Held.{HasStored}
use Rattle.body_journal.proofs.Has.{decided_has, member_has}
use Rattle.body_journal.proofs.Marking.{decided_unmarked}
use Rattle.body_journal.proofs.Storing.{mend_keeps, mend_stores, still_stores}
use Rattle.body_journal.proofs.journal.BodyJournal.settle.Goals as goal

pub returns-in_err-is_in-clause-stores : goal.returns-in_err-is_in-clause-stores
returns-in_err-is_in-clause-stores g c = λ bodies stores.
    mend_err (g.D.Disk.told c.mend.new.disk) (record c.args.self.now { log = c.mend.new.self }) bodies c.from_residual.result c.from_residual.ensures.0
    (still_stores (g.D.Disk.told c.args.disk.now) (g.D.Disk.told c.mend.new.disk) c.args.self.now.log c.mend.new.self c.args.self.now.journals c.args.self.now.tally.stored c.args.self.now.tally.grouped
    c.args.self.now.held.items bodies stores (λ groups waiting carried. c.in_err-is_in.ensures.carries (map group_bytes groups) (option_map group_bytes waiting) carried)
    c.in_err-is_in.ensures.others c.in_err-is_in.ensures.file)

pub returns-in_err-is_in-clause-moments : goal.returns-in_err-is_in-clause-moments
returns-in_err-is_in-clause-moments g c = λ bodies stores.
    mend_keeps (g.D.Disk.told c.args.disk.now) (g.D.Disk.told c.mend.new.disk) c.args.self.now.log c.args.self.now.journals c.args.self.now.tally.stored c.args.self.now.tally.grouped
    c.args.self.now.held.items bodies stores
    (λ groups waiting carried. moments_items group_bytes groups waiting c.args.self.now.log.file (g.D.Disk.told c.args.disk.now) (g.D.Disk.told c.mend.new.disk)
    (c.in_err-is_in.ensures.leaves (map group_bytes groups) (option_map group_bytes waiting) carried))

pub returns-clause-unmarked : goal.returns-clause-unmarked
returns-clause-unmarked g c =
    subst (λ (helds : List Held). AreUnmarked helds) (sym c.decide.ensures.held) (decided_unmarked c.args.self.now.tally.stored c.in_ok-is_in.is_in c.args.self.now.held.items)

pub returns-clause-stores : goal.returns-clause-stores
returns-clause-stores g c = λ bodies stores.
    let needed : needs_mend c.args.self.now.log ≡ false → c.in_ok-is_in.is_in ≡ false = λ settled. let same : Ok c.in_ok-is_in.is_in ≡ Ok false = (c.in_ok-is_in.ensures.not_needed settled).0 in cc in
    subst (λ (log : RecordLog). (more : List (List ℕ)) × StoresIn (g.D.Disk.told c.mend.new.disk) log c.decide.new.self.journals c.decide.new.self.tally.stored c.decide.new.self.tally.grouped
    c.decide.new.self.held.items (bodies ++ more)) (sym c.decide.ensures.log)
    (subst (λ (last : ℕ). (more : List (List ℕ)) × StoresIn (g.D.Disk.told c.mend.new.disk) c.mend.new.self last c.decide.new.self.tally.stored c.decide.new.self.tally.grouped
    c.decide.new.self.held.items (bodies ++ more)) (sym c.decide.ensures.journals)
    (mend_stores c.in_ok-is_in.is_in (g.D.Disk.told c.args.disk.now) (g.D.Disk.told c.mend.new.disk) c.args.self.now.log c.mend.new.self c.args.self.now.journals c.args.self.now.tally.stored
    c.args.self.now.tally.grouped c.decide.new.self.tally.stored c.decide.new.self.tally.grouped c.args.self.now.held.items c.decide.new.self.held.items bodies c.args.self.now.tally.fits stores
    (λ groups waiting carried. mend_items {E = LogFault} group_bytes c.mend.new.self (g.D.Disk.told c.mend.new.disk) groups waiting (Ok c.in_ok-is_in.is_in)
    (c.in_ok-is_in.ensures.carries (map group_bytes groups) (option_map group_bytes waiting) carried))
    c.in_ok-is_in.ensures.others c.in_ok-is_in.ensures.file needed c.decide.ensures.stored c.decide.ensures.held))

pub returns-clause-moments : goal.returns-clause-moments
returns-clause-moments g c = λ bodies stores.
    mend_keeps (g.D.Disk.told c.args.disk.now) (g.D.Disk.told c.mend.new.disk) c.args.self.now.log c.args.self.now.journals c.args.self.now.tally.stored c.args.self.now.tally.grouped
    c.args.self.now.held.items bodies stores
    (λ groups waiting carried. moments_items group_bytes groups waiting c.args.self.now.log.file (g.D.Disk.told c.args.disk.now) (g.D.Disk.told c.mend.new.disk)
    (c.in_ok-is_in.ensures.leaves (map group_bytes groups) (option_map group_bytes waiting) carried))

pub returns-clause-known : goal.returns-clause-known
returns-clause-known g c = λ serial bytes before has.
    subst (λ (helds : List Held). HasStored helds serial bytes before) (sym c.decide.ensures.held)
    (decided_has c.args.self.now.tally.stored c.in_ok-is_in.is_in c.args.self.now.held.items serial bytes before has)

pub returns-clause-members : goal.returns-clause-members
returns-clause-members g c = λ taken serial bytes place has.
    subst (λ (helds : List Held). HasStored helds serial bytes (min (c.args.self.now.tally.stored + place) (2 ^ 64 - 1))) (sym c.decide.ensures.held)
    (member_has c.args.self.now.tally.stored c.in_ok-is_in.is_in c.args.self.now.held.items serial bytes place taken has)
