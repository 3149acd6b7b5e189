use Rattle.std.proofs.Common.{◌≡◌, ◌+◌, length, sym, ap, ◌∙◌, subst, arith}
use Rattle.std.specs.Prelude.{None}
use Rattle.std.specs.Arc.{arc_value}
use Rattle.history_board.specs.Tokens.{Kept}
use Rattle.change_model.specs.declared.history.Committed.{Committed}
use Rattle.change_model.specs.Entries.{IsEntry}
use Rattle.commit_core.specs.Books.{Booked}
use Rattle.commit_core.specs.Ledgers.{Ledgered}
use Rattle.commit_core.proofs.Ledgers.{ledger_entered}
use Rattle.commit_core.proofs.ledger.Ledger.enter.Goals as goal

pub returns-clause-sound : goal.returns-clause-sound
returns-clause-sound c =
    let i = c.self.inside in
    let k = i.keeper in
    let e = c.args.committed in
    let none : i.book.waiting ≡ None = ap (λ (l : Ledgered). l.waiting) c.self.view_is ∙ c.requires.settled in
    let entry_is : IsEntry (length k.seen + 1) (arc_value c.args.entry) =
    subst (λ (l : Ledgered). IsEntry (length l.keeper.seen + 1) (arc_value c.args.entry)) (sym c.self.view_is) c.requires.entry in
    ledger_entered k c.enter-time.new.keeper i.book c.add.new.self e (arc_value c.args.entry) e.origin.session
    (ap (λ (x : Kept Committed). x.seen) c.enter-time.ensures.is) (ap (λ (x : Kept Committed). x.since) c.enter-time.ensures.is) c.enter-time.ensures.sound
    (ap (λ (b : Booked). b.entries) c.add.ensures.added) (ap (λ (b : Booked). b.origins) c.add.ensures.added) (ap (λ (b : Booked). b.waiting) c.add.ensures.added ∙ none)
    c.enter-time.ensures.enrolled (subst (λ n. IsEntry n (arc_value c.args.entry)) (omega arith) entry_is) c.self.invariant.1

pub invariant_of-self : goal.invariant_of-self
invariant_of-self c = (ap (λ (x : Kept Committed). x.board) c.enter-time.ensures.is ∙ c.self.invariant.0, returns-clause-sound c)
