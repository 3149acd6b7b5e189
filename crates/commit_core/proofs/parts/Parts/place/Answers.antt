use Rattle.std.proofs.Common.{◌+◌, length, Bool, Some, option_map, Ok, Err, sym, ap, subst, arith, refl}
use Rattle.std.specs.Arc.{arc_value}
use Rattle.change_model.specs.declared.entry.Entry.{Entry}
use Rattle.change_model.specs.Entries.{IsEntry}
use Rattle.commit_core.specs.Ledgers.{Ledgered, room_of}
use Rattle.commit_core.specs.Puts.{IsNextEntry}
use Rattle.commit_core.proofs.Deciding.{settle_fails, settle_fails_carries, settle_memory, mend_leaves, put_behind, put_carries, put_leaves, others_further}
use Rattle.commit_core.proofs.Planning.{planned_entry}
use Rattle.commit_core.proofs.RowsKept.{settle_rows, put_rows, chosen_next}
use Rattle.commit_core.proofs.parts.Parts.place.Goals as goal

pub returns-in-Err-clause-step : goal.returns-in-Err-clause-step
returns-in-Err-clause-step g c =
    let old = c.args.self.now in
    let new = c.decide.new.self in
    let most = c.args.most in
    settle_fails g.D.Disk.fault_count (room_of old.ledger old.disk old.log most) (room_of new.ledger new.disk new.log most) c.args.seen.now c.args.seen.now c.args.committed c.in-Err.fault
    (c.in-Err.ensures.step most) refl

pub returns-in-Err-clause-memory : goal.returns-in-Err-clause-memory
returns-in-Err-clause-memory g c =
    let old = c.args.self.now in
    let new = c.decide.new.self in
    let most = c.args.most in
    settle_memory g.D.Disk.fault_count (room_of old.ledger old.disk old.log most) (room_of new.ledger new.disk new.log most) c.in-Err.fault (c.in-Err.ensures.step most)

pub returns-in-Err-clause-carries : goal.returns-in-Err-clause-carries
returns-in-Err-clause-carries g c = λ entries waiting coming prepared committed is.
    let old = c.args.self.now in
    let new = c.decide.new.self in
    let most = c.args.most in
    settle_fails_carries g.D.Disk.fault_count (g.D.Disk.told new.disk) (room_of old.ledger old.disk old.log most) (room_of new.ledger new.disk new.log most) entries waiting coming c.in-Err.fault
    (c.in-Err.ensures.step most) (c.in-Err.ensures.carries most entries waiting is)

pub returns-in-Err-clause-leaves : goal.returns-in-Err-clause-leaves
returns-in-Err-clause-leaves g c = λ entries waiting coming prepared is.
    mend_leaves entries waiting (Some coming) _ _ (c.decide.ensures.leaves c.args.most entries waiting is)

pub returns-then-length-most-clause-leaves : goal.returns-then-length-most-clause-leaves
returns-then-length-most-clause-leaves g c = λ entries waiting coming prepared is.
    mend_leaves entries waiting (Some coming) _ _ (c.decide.ensures.leaves c.args.most entries waiting is)

pub put-requires-clause-entry : goal.put-requires-clause-entry
put-requires-clause-entry g c =
    let old = c.args.self.now.ledger in
    let new = c.decide.new.self.ledger in
    let planned = c.args.planned.entries in
    let is : IsEntry (length new.keeper.seen + 1) _ =
    planned_entry c.in-Ok.kept old.waiting old.keeper.seen new.keeper.seen (arc_value planned.alone) (option_map arc_value planned.behind)
    (λ none. let e = c.in-Ok.ensures.none none in cc e) (ap (λ (l : Ledgered). l.keeper.seen) c.in-Ok.ensures.decided) c.requires.alone c.requires.behind in
    subst (λ (e : Entry). IsEntry (length new.keeper.seen + 1) e) (sym c.choose.ensures) is

pub returns-clause-step : goal.returns-clause-step
returns-clause-step g c =
    let old = c.args.self.now in
    let mid = c.decide.new.self in
    let new = c.put.new.self in
    let most = c.args.most in
    put_behind g.D.Disk.fault_count (room_of old.ledger old.disk old.log most) (room_of mid.ledger mid.disk mid.log most) (room_of new.ledger new.disk new.log most)
    c.args.seen.now c.put.new.seen c.args.committed c.put.result (c.in-Ok.ensures.step most) (omega arith) (c.put.ensures.step most (omega arith))

pub returns-clause-carries : goal.returns-clause-carries
returns-clause-carries g c = λ entries waiting coming prepared committed is.
    let new = c.put.new.self in
    let most = c.args.most in
    let first = c.in-Ok.ensures.carries most entries waiting is in
    put_carries (g.D.Disk.told new.disk) (room_of new.ledger new.disk new.log most) entries first.0 waiting coming c.put.result first.1
    (c.put.ensures.carries most first.0 coming prepared committed first.2)

pub returns-clause-leaves : goal.returns-clause-leaves
returns-clause-leaves g c = λ entries waiting coming prepared is.
    let most = c.args.most in
    let first = c.in-Ok.ensures.carries most entries waiting is in
    put_leaves entries waiting coming first.0 _ _ _ first.1 (c.decide.ensures.leaves most entries waiting is) (c.put.ensures.leaves most first.0 coming prepared first.2)

pub returns-clause-others : goal.returns-clause-others
returns-clause-others g c = others_further _ _ _ c.decide.ensures.others c.put.ensures.others

pub returns-in-Err-clause-rows : goal.returns-in-Err-clause-rows
returns-in-Err-clause-rows g c = λ have planned.
    let old = c.args.self.now in
    let new = c.decide.new.self in
    let most = c.args.most in
    settle_rows {T = Bool} c.grown_entries_law.ensures g.D.Disk.fault_count (room_of old.ledger old.disk old.log most) (room_of new.ledger new.disk new.log most)
    (Err c.in-Err.fault) (c.in-Err.ensures.step most) have

pub returns-then-length-most-clause-rows : goal.returns-then-length-most-clause-rows
returns-then-length-most-clause-rows g c = λ have planned.
    let old = c.args.self.now in
    let new = c.decide.new.self in
    let most = c.args.most in
    settle_rows {T = Bool} c.grown_entries_law.ensures g.D.Disk.fault_count (room_of old.ledger old.disk old.log most) (room_of new.ledger new.disk new.log most)
    (Ok c.in-Ok.kept) (c.in-Ok.ensures.step most) have

pub returns-clause-rows : goal.returns-clause-rows
returns-clause-rows g c = λ have planned.
    let old = c.args.self.now in
    let mid = c.decide.new.self in
    let new = c.put.new.self in
    let most = c.args.most in
    let made = c.args.planned.entries in
    let first = settle_rows {T = Bool} c.grown_entries_law.ensures g.D.Disk.fault_count (room_of old.ledger old.disk old.log most) (room_of mid.ledger mid.disk mid.log most)
    (Ok c.in-Ok.kept) (c.in-Ok.ensures.step most) have in
    let next = chosen_next c.in-Ok.kept old.ledger.waiting old.ledger.keeper.seen mid.ledger.keeper.seen c.args.committed (arc_value made.alone) (option_map arc_value made.behind)
    (length old.ledger.keeper.seen + 2) (λ none. let e = c.in-Ok.ensures.none none in cc e) (ap (λ (l : Ledgered). l.keeper.seen) c.in-Ok.ensures.decided) c.requires.behind planned in
    put_rows c.grown_entries_law.ensures g.D.Disk.fault_count mid.ledger new.ledger (room_of mid.ledger mid.disk mid.log most) (room_of new.ledger new.disk new.log most)
    c.args.seen.now c.put.new.seen c.args.committed (arc_value c.choose.result) c.put.result refl refl (ap (λ (l : Ledgered). l.waiting) c.in-Ok.ensures.decided) refl
    (c.put.ensures.step most (omega arith)) c.put.ensures.entered c.put.ensures.waits first
    (subst (λ (e : Entry). IsNextEntry mid.ledger.keeper.seen c.args.committed e) (sym c.choose.ensures) next)
