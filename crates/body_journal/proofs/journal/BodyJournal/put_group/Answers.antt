use Rattle.std.proofs.Common.{◌≡◌, ℕ, ◌+◌, ◌<◌, ◌^◌, List, ◌∷◌, take, true, false, Result, sym, ◌∙◌, ap, subst, rules}
use Rattle.record_log.specs.Logs.{needs_mend, IsFull}
use Rattle.record_log.specs.declared.fault.LogFault.{LogFault}
use Rattle.record_log.specs.declared.log.RecordLog.{RecordLog}
use Rattle.body_journal.specs.declared.held.Held.{Held}
use Rattle.body_journal.specs.Groups.{group_size, IsFullest}
use Rattle.body_journal.specs.Held.{others_in, grouped_in}
use Rattle.body_journal.specs.Marks.{IsDecidedBy, StoresPut}
use Rattle.body_journal.proofs.Flushing.{true_false, members, members_count, members_within, made_put, made_stores, made_keeps, made_queue, made_has}
use Rattle.body_journal.proofs.journal.BodyJournal.put_group.Goals as goal

pub put_record-put-requires-clause-others : goal.put_record-put-requires-clause-others
put_record-put-requires-clause-others g c =
    members_count c.args.serial c.in-Some.tally.grouped c.gather-group.result.others c.args.body.now c.args.self.now.held.items c.mark_group.new.self.held.items c.mark_group.ensures.held
    c.in-Some.ensures.grouped c.requires.unmarked
    (subst (λ (list : List Held). IsFullest c.args.body.now (others_in c.args.serial list) c.gather-group.result.others) c.deref.ensures.value c.gather-group.ensures.fullest)

pub put_record-put-requires-clause-within : goal.put_record-put-requires-clause-within
put_record-put-requires-clause-within g c =
    members_within c.args.serial c.in-Some.tally.grouped c.gather-group.result.others c.args.body.now c.args.self.now.held.items c.mark_group.new.self.held.items c.mark_group.ensures.held
    c.in-Some.ensures.grouped c.requires.unmarked
    (subst (λ (list : List Held). IsFullest c.args.body.now (others_in c.args.serial list) c.gather-group.result.others) c.deref.ensures.value c.gather-group.ensures.fullest)

pub returns-in-Ok-clause-put : goal.returns-in-Ok-clause-put
returns-in-Ok-clause-put g c =
    made_put c.in-Ok.field-0 c.args.self.now c.mark_group.new.self c.put_record-put.new.self c.after_put.new.self c.args.serial c.gather-group.result.others c.in-Some.tally.grouped c.args.body.now
    (record {
      unmarked = c.requires.unmarked;
      fullest = subst (λ (list : List Held). IsFullest c.args.body.now (others_in c.args.serial list) c.gather-group.result.others) c.deref.ensures.value c.gather-group.ensures.fullest;
      count = c.in-Some.ensures.grouped;
      fits = subst (λ (n : ℕ). n + c.in-Some.tally.grouped < 2 ^ 64) c.in-Some.ensures.stored c.in-Some.tally.fits;
      marked_is = c.mark_group.ensures.held;
      stored_is = c.mark_group.ensures.stored ∙ c.in-Some.ensures.stored;
      grouped_is = c.mark_group.ensures.grouped;
      log_is = c.mark_group.ensures.log;
      same = c.put_record-put.ensures.same;
      new_log = c.after_put.ensures.log;
      new_journals = search rules;
      decided_is = subst (λ (put : Result ℕ LogFault). IsDecidedBy put c.put_record-put.new.self.tally.stored c.put_record-put.new.self.tally.grouped c.put_record-put.new.self.held.items c.after_put.new.self.tally.stored c.after_put.new.self.tally.grouped c.after_put.new.self.held.items) c.in-Ok.is c.after_put.ensures.decided;
    })
    (search rules) (search rules)

pub returns-in-Ok-clause-stores : goal.returns-in-Ok-clause-stores
returns-in-Ok-clause-stores g c = λ bodies stores.
    subst (λ (put : Result ℕ LogFault). StoresPut (g.D.Disk.told c.put_record-put.new.disk) c.after_put.new.self bodies c.args.body.now put) c.in-Ok.is
    (made_stores c.put_record-put.result (g.D.Disk.told c.args.disk.now) (g.D.Disk.told c.put_record-put.new.disk) c.args.self.now c.mark_group.new.self c.put_record-put.new.self c.after_put.new.self c.args.serial c.gather-group.result.others c.in-Some.tally.grouped c.args.body.now bodies
    (record {
      unmarked = c.requires.unmarked;
      fullest = subst (λ (list : List Held). IsFullest c.args.body.now (others_in c.args.serial list) c.gather-group.result.others) c.deref.ensures.value c.gather-group.ensures.fullest;
      count = c.in-Some.ensures.grouped;
      fits = subst (λ (n : ℕ). n + c.in-Some.tally.grouped < 2 ^ 64) c.in-Some.ensures.stored c.in-Some.tally.fits;
      marked_is = c.mark_group.ensures.held;
      stored_is = c.mark_group.ensures.stored ∙ c.in-Some.ensures.stored;
      grouped_is = c.mark_group.ensures.grouped;
      log_is = c.mark_group.ensures.log;
      same = c.put_record-put.ensures.same;
      new_log = c.after_put.ensures.log;
      new_journals = search rules;
      decided_is = c.after_put.ensures.decided;
    })
    c.requires.settled stores c.put_record-put.ensures.others c.put_record-put.ensures.file c.put_record-put.ensures.carries)

pub returns-in-Ok-clause-moments : goal.returns-in-Ok-clause-moments
returns-in-Ok-clause-moments g c = λ bodies stores.
    made_keeps c.put_record-put.result (g.D.Disk.told c.args.disk.now) (g.D.Disk.told c.put_record-put.new.disk) c.args.self.now c.mark_group.new.self c.put_record-put.new.self c.after_put.new.self c.args.serial c.gather-group.result.others c.in-Some.tally.grouped c.args.body.now bodies
    (record {
      unmarked = c.requires.unmarked;
      fullest = subst (λ (list : List Held). IsFullest c.args.body.now (others_in c.args.serial list) c.gather-group.result.others) c.deref.ensures.value c.gather-group.ensures.fullest;
      count = c.in-Some.ensures.grouped;
      fits = subst (λ (n : ℕ). n + c.in-Some.tally.grouped < 2 ^ 64) c.in-Some.ensures.stored c.in-Some.tally.fits;
      marked_is = c.mark_group.ensures.held;
      stored_is = c.mark_group.ensures.stored ∙ c.in-Some.ensures.stored;
      grouped_is = c.mark_group.ensures.grouped;
      log_is = c.mark_group.ensures.log;
      same = c.put_record-put.ensures.same;
      new_log = c.after_put.ensures.log;
      new_journals = search rules;
      decided_is = c.after_put.ensures.decided;
    })
    c.requires.settled stores c.put_record-put.ensures.leaves

pub returns-in-Err-clause-full : goal.returns-in-Err-clause-full
returns-in-Err-clause-full g c =
    let fullest : IsFullest c.args.body.now (others_in c.args.serial c.args.self.now.held.items) c.gather-group.result.others =
    subst (λ (list : List Held). IsFullest c.args.body.now (others_in c.args.serial list) c.gather-group.result.others) c.deref.ensures.value c.gather-group.ensures.fullest in
    let size : c.gather-group.result.size ≡ group_size (c.args.body.now ∷ take c.gather-group.result.others (others_in c.args.serial c.args.self.now.held.items)) =
    subst (λ (list : List Held). c.gather-group.result.size ≡ group_size (c.args.body.now ∷ take c.gather-group.result.others (others_in c.args.serial list))) c.deref.ensures.value
    c.gather-group.ensures.size in
    let same : grouped_in c.mark_group.new.self.held.items ≡ take c.gather-group.result.others (others_in c.args.serial c.args.self.now.held.items) =
    members c.args.serial c.in-Some.tally.grouped c.gather-group.result.others c.args.body.now c.args.self.now.held.items c.mark_group.new.self.held.items c.mark_group.ensures.held
    c.in-Some.ensures.grouped c.requires.unmarked in
    let settled : needs_mend c.mark_group.new.self.log ≡ false = ap (λ (one : RecordLog). needs_mend one) c.mark_group.ensures.log ∙ c.requires.settled in (
      c.gather-group.result.others,
      fullest,
      (
        (λ is_full.
            subst (λ (one : RecordLog). IsFull one (group_size (c.args.body.now ∷ take c.gather-group.result.others (others_in c.args.serial c.args.self.now.held.items)))) c.mark_group.ensures.log
            (subst (λ (bodies : List (List ℕ)). IsFull c.mark_group.new.self.log (group_size (c.args.body.now ∷ bodies))) same (c.put_record-put.ensures.full settled (c.in-Err.is ∙ is_full)))),
        (λ full.
            let is_false : c.fits.result ≡ false = c.fits.ensures.fits.1 (subst (λ (n : ℕ). IsFull c.args.self.now.log n) (sym size) full) in
            let is_true : c.fits.result ≡ true = search rules in
            absurd (true_false (sym is_true ∙ is_false))),
      ),
    )

pub returns-in-Err-clause-queue : goal.returns-in-Err-clause-queue
returns-in-Err-clause-queue g c =
    made_queue c.in-Err.fault c.args.self.now c.mark_group.new.self c.put_record-put.new.self c.after_put.new.self c.args.serial c.gather-group.result.others c.in-Some.tally.grouped c.args.body.now
    (record {
      unmarked = c.requires.unmarked;
      fullest = subst (λ (list : List Held). IsFullest c.args.body.now (others_in c.args.serial list) c.gather-group.result.others) c.deref.ensures.value c.gather-group.ensures.fullest;
      count = c.in-Some.ensures.grouped;
      fits = subst (λ (n : ℕ). n + c.in-Some.tally.grouped < 2 ^ 64) c.in-Some.ensures.stored c.in-Some.tally.fits;
      marked_is = c.mark_group.ensures.held;
      stored_is = c.mark_group.ensures.stored ∙ c.in-Some.ensures.stored;
      grouped_is = c.mark_group.ensures.grouped;
      log_is = c.mark_group.ensures.log;
      same = c.put_record-put.ensures.same;
      new_log = c.after_put.ensures.log;
      new_journals = search rules;
      decided_is = subst (λ (put : Result ℕ LogFault). IsDecidedBy put c.put_record-put.new.self.tally.stored c.put_record-put.new.self.tally.grouped c.put_record-put.new.self.held.items c.after_put.new.self.tally.stored c.after_put.new.self.tally.grouped c.after_put.new.self.held.items) c.in-Err.is c.after_put.ensures.decided;
    })

pub returns-in-Err-clause-stores : goal.returns-in-Err-clause-stores
returns-in-Err-clause-stores g c = λ bodies stores.
    subst (λ (put : Result ℕ LogFault). StoresPut (g.D.Disk.told c.put_record-put.new.disk) c.after_put.new.self bodies c.args.body.now put) c.in-Err.is
    (made_stores c.put_record-put.result (g.D.Disk.told c.args.disk.now) (g.D.Disk.told c.put_record-put.new.disk) c.args.self.now c.mark_group.new.self c.put_record-put.new.self c.after_put.new.self c.args.serial c.gather-group.result.others c.in-Some.tally.grouped c.args.body.now bodies
    (record {
      unmarked = c.requires.unmarked;
      fullest = subst (λ (list : List Held). IsFullest c.args.body.now (others_in c.args.serial list) c.gather-group.result.others) c.deref.ensures.value c.gather-group.ensures.fullest;
      count = c.in-Some.ensures.grouped;
      fits = subst (λ (n : ℕ). n + c.in-Some.tally.grouped < 2 ^ 64) c.in-Some.ensures.stored c.in-Some.tally.fits;
      marked_is = c.mark_group.ensures.held;
      stored_is = c.mark_group.ensures.stored ∙ c.in-Some.ensures.stored;
      grouped_is = c.mark_group.ensures.grouped;
      log_is = c.mark_group.ensures.log;
      same = c.put_record-put.ensures.same;
      new_log = c.after_put.ensures.log;
      new_journals = search rules;
      decided_is = c.after_put.ensures.decided;
    })
    c.requires.settled stores c.put_record-put.ensures.others c.put_record-put.ensures.file c.put_record-put.ensures.carries)

pub returns-in-Err-clause-moments : goal.returns-in-Err-clause-moments
returns-in-Err-clause-moments g c = λ bodies stores.
    made_keeps c.put_record-put.result (g.D.Disk.told c.args.disk.now) (g.D.Disk.told c.put_record-put.new.disk) c.args.self.now c.mark_group.new.self c.put_record-put.new.self c.after_put.new.self c.args.serial c.gather-group.result.others c.in-Some.tally.grouped c.args.body.now bodies
    (record {
      unmarked = c.requires.unmarked;
      fullest = subst (λ (list : List Held). IsFullest c.args.body.now (others_in c.args.serial list) c.gather-group.result.others) c.deref.ensures.value c.gather-group.ensures.fullest;
      count = c.in-Some.ensures.grouped;
      fits = subst (λ (n : ℕ). n + c.in-Some.tally.grouped < 2 ^ 64) c.in-Some.ensures.stored c.in-Some.tally.fits;
      marked_is = c.mark_group.ensures.held;
      stored_is = c.mark_group.ensures.stored ∙ c.in-Some.ensures.stored;
      grouped_is = c.mark_group.ensures.grouped;
      log_is = c.mark_group.ensures.log;
      same = c.put_record-put.ensures.same;
      new_log = c.after_put.ensures.log;
      new_journals = search rules;
      decided_is = c.after_put.ensures.decided;
    })
    c.requires.settled stores c.put_record-put.ensures.leaves

pub returns-in-Ok-clause-known : goal.returns-in-Ok-clause-known
returns-in-Ok-clause-known g c = λ serial bytes before has.
    made_has c.put_record-put.result c.args.self.now c.mark_group.new.self c.put_record-put.new.self c.after_put.new.self c.args.serial c.gather-group.result.others c.in-Some.tally.grouped c.args.body.now
    (record {
      unmarked = c.requires.unmarked;
      fullest = subst (λ (list : List Held). IsFullest c.args.body.now (others_in c.args.serial list) c.gather-group.result.others) c.deref.ensures.value c.gather-group.ensures.fullest;
      count = c.in-Some.ensures.grouped;
      fits = subst (λ (n : ℕ). n + c.in-Some.tally.grouped < 2 ^ 64) c.in-Some.ensures.stored c.in-Some.tally.fits;
      marked_is = c.mark_group.ensures.held;
      stored_is = c.mark_group.ensures.stored ∙ c.in-Some.ensures.stored;
      grouped_is = c.mark_group.ensures.grouped;
      log_is = c.mark_group.ensures.log;
      same = c.put_record-put.ensures.same;
      new_log = c.after_put.ensures.log;
      new_journals = search rules;
      decided_is = c.after_put.ensures.decided;
    }) serial bytes before has

pub returns-in-Err-clause-known : goal.returns-in-Err-clause-known
returns-in-Err-clause-known g c = λ serial bytes before has.
    made_has c.put_record-put.result c.args.self.now c.mark_group.new.self c.put_record-put.new.self c.after_put.new.self c.args.serial c.gather-group.result.others c.in-Some.tally.grouped c.args.body.now
    (record {
      unmarked = c.requires.unmarked;
      fullest = subst (λ (list : List Held). IsFullest c.args.body.now (others_in c.args.serial list) c.gather-group.result.others) c.deref.ensures.value c.gather-group.ensures.fullest;
      count = c.in-Some.ensures.grouped;
      fits = subst (λ (n : ℕ). n + c.in-Some.tally.grouped < 2 ^ 64) c.in-Some.ensures.stored c.in-Some.tally.fits;
      marked_is = c.mark_group.ensures.held;
      stored_is = c.mark_group.ensures.stored ∙ c.in-Some.ensures.stored;
      grouped_is = c.mark_group.ensures.grouped;
      log_is = c.mark_group.ensures.log;
      same = c.put_record-put.ensures.same;
      new_log = c.after_put.ensures.log;
      new_journals = search rules;
      decided_is = c.after_put.ensures.decided;
    }) serial bytes before has
