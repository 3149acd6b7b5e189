use Rattle.std.proofs.Common.{◌≡◌, ℕ, ◌+◌, ◌≤◌, List, [], ◌∷◌, ◌++◌, length, map, drop, sym, ap, ◌∙◌, subst, arith}
use Rattle.std.specs.Arc.{arc_value}
use Rattle.std.proofs.lemmas.List.{length-map, drop-map}
use Rattle.change_model.specs.declared.entry.Entry.{Entry}
use Rattle.change_model.specs.declared.history.Committed.{Committed}
use Rattle.change_model.specs.Entries.{IsEntry, AreEntriesAfter}
use Rattle.change_model.specs.Laws.{IsWritable}
use Rattle.commit_core.specs.Puts.{IsNextEntry}
use Rattle.commit_core.specs.Resolving.{committed_by}
use Rattle.commit_core.proofs.RowsKept.{after_pinned}
use Rattle.commit_core.proofs.plan.plan_entries.Goals as goal

pub returns-clause-alone : goal.returns-clause-alone
returns-clause-alone c =
    let time : c.in-Some.time ≡ length c.args.ledger.now.keeper.seen + 1 = omega (arith, c.in-Some.ensures, c.length-length.ensures.length) in
    subst (λ (n : ℕ). IsEntry n (arc_value c.in_ok-alone-2.alone)) time (subst (λ (e : Entry). IsEntry c.in-Some.time e) (sym c.in_ok-alone-2.ensures.ok) c.in_ok-alone.ensures.entry)

pub returns-clause-rows : goal.returns-clause-rows
returns-clause-rows c = λ origin have resolved.
    let ledger = c.args.ledger.now in
    let seen = ledger.keeper.seen in
    let pinned = c.args.pinned in
    let shared = c.entries-entries.result.now in
    let made : Committed = committed_by c.args.resolved.now origin in
    let counted : length seen ≡ 0 + length ledger.entries = c.counted_entries_law.ensures seen 0 (length seen) ledger.entries have.entered in
    let within : pinned ≤ length shared = omega (arith, counted, resolved.within, ap (λ (l : List Entry). length l) c.entries-entries.ensures, length-map shared arc_value) in
    let later_is : map arc_value c.of-later.result ≡ drop pinned ledger.entries =
    ap (λ l. map arc_value l) c.of-later.ensures ∙ (c.in_ok-shared.ensures ∙ (ap (λ l. map arc_value l) (c.after.ensures within)
    ∙ (sym (drop-map arc_value pinned shared) ∙ ap (λ l. drop pinned l) c.entries-entries.ensures))) in
    let are : AreEntriesAfter seen pinned (map arc_value c.of-later.result) =
    subst (λ (l : List Entry). AreEntriesAfter seen pinned l) (sym later_is)
    (after_pinned c.some_entries_law.ensures c.counted_entries_law.ensures seen ledger.entries pinned have.entered resolved.within) in
    let terms = c.terms_after.ensures seen (subst (λ (l : List Entry). AreEntriesAfter seen 0 l) (sym c.entries-entries.ensures) have.entered) in
    let time : c.in-Some.time ≡ length seen + 1 = omega (arith, c.in-Some.ensures, c.length-length.ensures.length) in
    let longer : IsWritable (seen ++ made ∷ []) = c.in_ok-alone.ensures.fits seen pinned origin resolved.ids are have.writable resolved.statements terms time in
    record {
      alone_is = subst (λ (e : Entry). IsNextEntry seen made e) (sym c.in_ok-alone-2.ensures.ok)
          (record { last = c.in_ok-alone.ensures.last seen pinned origin resolved.ids are longer terms time; writable = longer });
      behind_is = c.in_ok-behind.ensures.rows pinned origin have resolved are;
    }
