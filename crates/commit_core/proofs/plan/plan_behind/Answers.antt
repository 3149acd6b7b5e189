use Rattle.std.proofs.Common.{◌≡◌, ℕ, ◌+◌, List, [], ◌∷◌, ◌++◌, map, take, length, Some, sym, ap, ◌∙◌, subst, arith}
use Rattle.std.specs.Prelude.{option_map}
use Rattle.std.specs.Arc.{arc_value}
use Rattle.change_model.specs.declared.entry.Entry.{Entry}
use Rattle.change_model.specs.declared.history.Committed.{Committed}
use Rattle.change_model.specs.History.{History}
use Rattle.change_model.specs.Entries.{IsEntry, IsResolved, AreEntriesAfter}
use Rattle.change_model.specs.Laws.{IsWritable}
use Rattle.record_log.specs.Items.{with_one}
use Rattle.std.proofs.lemmas.List.{map-append}
use Rattle.commit_core.specs.Rooms.{change_of}
use Rattle.commit_core.specs.Resolving.{committed_by}
use Rattle.commit_core.specs.Puts.{IsNextEntry}
use Rattle.commit_core.specs.Steps.{entry_of_waited}
use Rattle.commit_core.proofs.Planning.{behind_some}
use Rattle.commit_core.proofs.RowsKept.{after_waiting, waiting_front, waiting_terms, waiting_length}
use Rattle.commit_core.proofs.plan.plan_behind.Goals as goal

pub returns-clause-is : goal.returns-clause-is
returns-clause-is c =
    let w = c.args.ledger.now.waiting in
    let is : Some (arc_value c.in-Some.earlier) ≡ entry_of_waited w = sym (ap (λ o. option_map arc_value o) c.in-Some.is) ∙ c.in_ok-earlier.ensures in
    let time : c.in-Some-checked_add.time ≡ length c.args.ledger.now.keeper.seen + 2 = omega (arith, c.in-Some-checked_add.ensures, c.length.ensures.length) in
    let is_entry : IsEntry (length c.args.ledger.now.keeper.seen + 2) (arc_value c.in_ok-new.field-0) =
    subst (λ (n : ℕ). IsEntry n (arc_value c.in_ok-new.field-0)) time (subst (λ (e : Entry). IsEntry c.in-Some-checked_add.time e) (sym c.in_ok-new.ensures.ok) c.in_ok-entry.ensures.entry) in
    behind_some w (length c.args.ledger.now.keeper.seen + 2) (arc_value c.in-Some.earlier) (arc_value c.in_ok-new.field-0) is is_entry

pub returns-clause-rows : goal.returns-clause-rows
returns-clause-rows c = λ pinned origin have resolved are.
    let ledger = c.args.ledger.now in
    let seen = ledger.keeper.seen in
    let w = ledger.waiting in
    let earlier = arc_value c.in-Some.earlier in
    let is : Some earlier ≡ entry_of_waited w = sym (ap (λ o. option_map arc_value o) c.in-Some.is) ∙ c.in_ok-earlier.ensures in
    let history = with_one seen (change_of w) in
    let made : Committed = committed_by c.args.resolved.now origin in
    let later_is : map arc_value c.of.result ≡ map arc_value c.args.later ++ earlier ∷ [] =
    ap (λ l. map arc_value l) (c.of.ensures ∙ (c.in_ok-push.ensures.items ∙ ap (λ l. l ++ c.in-Some.earlier ∷ []) c.into_items-later.ensures))
    ∙ map-append arc_value c.args.later (c.in-Some.earlier ∷ []) in
    let behind : AreEntriesAfter history pinned (map arc_value c.of.result) =
    subst (λ (l : List Entry). AreEntriesAfter history pinned l) (sym later_is)
    (after_waiting c.grown_entries_law.ensures seen w pinned (map arc_value c.args.later) earlier are have.waits is) in
    let ids : IsResolved (take pinned history) c.args.resolved.now = subst (λ (h : History). IsResolved h c.args.resolved.now) (sym (waiting_front seen w pinned resolved.within)) resolved.ids in
    let terms = ap (λ (e : Entry). e.terms) c.deref.ensures ∙ waiting_terms seen w earlier have.waits is in
    let long : length history ≡ length seen + 1 = waiting_length seen w earlier is in
    let time : c.in-Some-checked_add.time ≡ length history + 1 = omega (arith, long, c.in-Some-checked_add.ensures, c.length.ensures.length) in
    let longer : IsWritable (history ++ made ∷ []) = c.in_ok-entry.ensures.fits history pinned origin ids behind have.writable_with resolved.statements terms time in
    subst (λ (e : Entry). IsNextEntry history made e) (sym c.in_ok-new.ensures.ok)
    (record { last = c.in_ok-entry.ensures.last history pinned origin ids behind longer terms time; writable = longer })
