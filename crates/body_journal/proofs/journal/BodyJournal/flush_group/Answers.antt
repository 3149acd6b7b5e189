use Rattle.std.proofs.Common.{◌≡◌, ℕ, List, ◌++◌, Some, slice_get, ◌∙◌, subst, refl, min, ◌+◌, ◌-◌, ◌^◌, inr}
use Rattle.std.specs.Arc.{arc_value}
use Rattle.body_journal.specs.declared.held.Held.{Held}
use Rattle.body_journal.specs.Held.{HasStored}
use Rattle.body_journal.specs.Rooms.{IsFlushed}
use Rattle.body_journal.specs.Stores.{StoresIn}
use Rattle.body_journal.proofs.Has.{left_has}
use Rattle.body_journal.proofs.Flushing.{known_stores, forgotten_stores, forgotten_queue, forgotten_has, flushed, given_stores, queue_given, at_behind}
use Rattle.body_journal.proofs.journal.BodyJournal.flush_group.Goals as goal

pub returns-in-Some-clause-known : goal.returns-in-Some-clause-known
returns-in-Some-clause-known g c = λ before has. (
  refl,
  refl,
  record {
    log = refl;
    stored = refl;
    queue = forgotten_queue c.args.ticket.serial c.args.self.now.held.items c.forget.new.held.items c.forget.ensures;
  },
)

pub returns-in-Some-clause-stores : goal.returns-in-Some-clause-stores
returns-in-Some-clause-stores g c = λ bodies stores.
    known_stores (g.D.Disk.told c.args.disk.now) c.args.self.now c.args.ticket.serial (arc_value c.args.ticket.body) c.in-Some.before c.receipt.result.body c.forget.new.held.items bodies
    c.args.self.now.tally.fits stores
    (subst (λ (helds : List Held). HasStored helds c.args.ticket.serial (arc_value c.args.ticket.body) c.in-Some.before) c.deref-2.ensures.value
    (subst (λ (body : List ℕ). HasStored c.deref-2.result.now c.args.ticket.serial body c.in-Some.before) (c.items-body.ensures ∙ c.deref.ensures) c.in-Some.ensures))
    c.forget.ensures c.receipt.ensures.body

pub returns-in-Ok-clause-stores : goal.returns-in-Ok-clause-stores
returns-in-Ok-clause-stores g c = λ bodies stores.
    let found : (more : List (List ℕ)) × StoresIn (g.D.Disk.told c.store.new.disk) c.store.new.self.log c.store.new.self.journals c.store.new.self.tally.stored c.store.new.self.tally.grouped
    c.store.new.self.held.items (bodies ++ more) × (slice_get (bodies ++ more) c.in-Ok.before ≡ Some c.items-body.result.now) = c.in-Ok.ensures.stores bodies stores in (
      found.0,
      forgotten_stores (g.D.Disk.told c.store.new.disk) c.store.new.self c.args.ticket.serial c.forget-in-Ok.new.held.items (bodies ++ found.0) c.forget-in-Ok.ensures found.1,
      at_behind (bodies ++ found.0) c.in-Ok.before c.receipt-in-Ok.result.body (arc_value c.args.ticket.body)
          (subst (λ (body : List ℕ). slice_get (bodies ++ found.0) c.in-Ok.before ≡ Some body) (c.items-body.ensures ∙ c.deref.ensures) found.2)
          c.in-Ok.ensures.put.fits c.receipt-in-Ok.ensures.body,
    )

pub returns-in-Err-clause-given_up : goal.returns-in-Err-clause-given_up
returns-in-Err-clause-given_up g c = record {
  is_in = c.in-Err.ensures.left.is_in;
  mended = c.in-Err.ensures.left.mended;
  taken = λ is_true other bytes place differs has.
      left_has c.of-fault.result c.args.ticket.serial c.store.new.self.held.items c.give_up.new.held.items other bytes (min (c.args.self.now.tally.stored + place) (2 ^ 64 - 1)) c.give_up.ensures differs
      (c.in-Err.ensures.left.taken is_true other bytes place has);
  queue = queue_given c.of-fault.result c.args.ticket.serial c.store.new.self.held.items c.give_up.new.held.items _ c.give_up.ensures c.in-Err.ensures.left.queue;
}

pub returns-in-Err-clause-stores : goal.returns-in-Err-clause-stores
returns-in-Err-clause-stores g c = λ bodies stores.
    let found : (more : List (List ℕ)) × StoresIn (g.D.Disk.told c.store.new.disk) c.store.new.self.log c.store.new.self.journals c.store.new.self.tally.stored c.store.new.self.tally.grouped
    c.store.new.self.held.items (bodies ++ more) = c.in-Err.ensures.stores bodies stores in (
      found.0,
      given_stores c.of-fault.result (g.D.Disk.told c.store.new.disk) c.store.new.self c.args.ticket.serial c.give_up.new.held.items (bodies ++ found.0) c.give_up.ensures found.1,
      tt,
    )

pub returns-in-Some-clause-keeps : goal.returns-in-Some-clause-keeps
returns-in-Some-clause-keeps g c = λ serial bytes before differs has.
    forgotten_has c.args.ticket.serial c.args.self.now.held.items c.forget.new.held.items serial bytes before c.forget.ensures differs has

pub returns-in-Ok-clause-keeps : goal.returns-in-Ok-clause-keeps
returns-in-Ok-clause-keeps g c = λ serial bytes before differs has.
    forgotten_has c.args.ticket.serial c.store.new.self.held.items c.forget-in-Ok.new.held.items serial bytes before c.forget-in-Ok.ensures differs
    (c.in-Ok.ensures.known serial bytes before has)

pub returns-in-Err-clause-keeps : goal.returns-in-Err-clause-keeps
returns-in-Err-clause-keeps g c = λ serial bytes before differs has.
    left_has c.of-fault.result c.args.ticket.serial c.store.new.self.held.items c.give_up.new.held.items serial bytes before c.give_up.ensures differs
    (c.in-Err.ensures.known serial bytes before has)

pub returns-in-Ok-clause-opened : goal.returns-in-Ok-clause-opened
returns-in-Ok-clause-opened g c =
    inr
    (subst (λ (body : List ℕ). IsFlushed c.args.self.now (record c.store.new.self { held = c.forget-in-Ok.new.held }) c.args.ticket.serial body c.receipt-in-Ok.result.body)
    (c.items-body.ensures ∙ c.deref.ensures)
    (flushed c.args.self.now c.store.new.self (record c.store.new.self { held = c.forget-in-Ok.new.held }) c.args.ticket.serial c.items-body.result.now c.in-Ok.before c.receipt-in-Ok.result.body
    c.in-Ok.ensures.put c.receipt-in-Ok.ensures.body c.forget-in-Ok.ensures refl refl))
