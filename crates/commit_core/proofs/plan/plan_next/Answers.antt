use Rattle.std.proofs.Common.{◌≡◌, List, [], ◌∷◌, ◌++◌, length, map, take, refl, sym, ap, ◌∙◌, subst}
use Rattle.std.specs.Arc.{arc_value}
use Rattle.std.proofs.Math.Seq.{take-length}
use Rattle.change_model.specs.declared.entry.Entry.{Entry}
use Rattle.change_model.specs.declared.history.Committed.{Committed}
use Rattle.change_model.specs.History.{History}
use Rattle.change_model.specs.Entries.{IsResolved, AreEntriesAfter}
use Rattle.change_model.specs.Laws.{IsWritable}
use Rattle.commit_core.specs.Puts.{IsNextEntry}
use Rattle.commit_core.specs.Resolving.{committed_by}
use Rattle.commit_core.proofs.plan.plan_next.Goals as goal

pub returns-clause-rows : goal.returns-clause-rows
returns-clause-rows c = λ origin are resolved writable statements time.
    let seen = c.args.ledger.now.keeper.seen in
    let made : Committed = committed_by c.args.resolved.now origin in
    let none : map arc_value c.of-later.result ≡ [] = ap (λ l. map arc_value l) (c.of-later.ensures ∙ c.new.ensures.items) in
    let after : AreEntriesAfter seen (length seen) (map arc_value c.of-later.result) = subst (λ (l : List Entry). AreEntriesAfter seen (length seen) l) (sym none) refl in
    let ids : IsResolved (take (length seen) seen) c.args.resolved.now = subst (λ (h : History). IsResolved h c.args.resolved.now) (sym (take-length seen)) resolved in
    let terms = c.terms_after.ensures seen (subst (λ (l : List Entry). AreEntriesAfter seen 0 l) (sym c.entries.ensures) are) in
    let longer : IsWritable (seen ++ made ∷ []) = c.in_ok-entry.ensures.fits seen (length seen) origin ids after writable statements terms time in
    subst (λ (e : Entry). IsNextEntry seen made e) (sym c.in_ok-new.ensures.ok)
    (record { last = c.in_ok-entry.ensures.last seen (length seen) origin ids after longer terms time; writable = longer })
