use Rattle.std.proofs.Common.{◌≡◌, [], ◌∷◌, ◌++◌, length, sym, ap, ◌∙◌, subst}
use Rattle.std.specs.Prelude.{Some, None}
use Rattle.std.specs.Arc.{arc_value}
use Rattle.history_board.specs.Tokens.{Kept}
use Rattle.change_model.specs.declared.history.Committed.{Committed}
use Rattle.commit_core.specs.Books.{Booked, waited}
use Rattle.commit_core.specs.Rooms.{session_of, change_of, MayCome, MayComeIn}
use Rattle.commit_core.specs.Ledgers.{IsReserved}
use Rattle.commit_core.proofs.Ledgers.{ledger_entered}
use Rattle.commit_core.proofs.ledger.Ledger.decide.Goals as goal

-- the ledger once the change has come in
pub returns-then-kept-clause-sound : goal.returns-then-kept-clause-sound
returns-then-kept-clause-sound c =
    let i = c.self.inside in
    let k = i.keeper in
    let w = c.in-Some.field-0 in
    let b' = c.add.new.self in
    let was : i.book.waiting ≡ Some (waited w) = sym c.in-Some.ensures.was in
    let none : c.decide.new.self ≡ record i.book { waiting = None } = c.decide.ensures.none in
    let pending : MayComeIn k.seen k.since k.doubt w.committed = subst (λ x. MayCome k.seen k.since k.doubt (change_of x)) was c.self.invariant.1.history.pending in
    let reserved : IsReserved (Some (waited w)) i.book.room (length k.seen) = subst (λ x. IsReserved x i.book.room (length k.seen)) was c.self.invariant.1.reserved in
    ledger_entered k c.commit.new.self i.book b' w.committed (arc_value w.entry) (session_of w.committed)
    c.commit.ensures.appended (ap (λ (x : Kept Committed). x.since) c.commit.ensures.rest) c.commit.ensures.sound
    (ap (λ (b : Booked). b.entries) c.add.ensures.added ∙ ap (λ (b : Booked). b.entries ++ arc_value w.entry ∷ []) none)
    (ap (λ (b : Booked). b.origins) c.add.ensures.added ∙ ap (λ (b : Booked). b.origins ++ w.committed.origin ∷ []) none)
    (ap (λ (b : Booked). b.waiting) c.add.ensures.added ∙ ap (λ (b : Booked). b.waiting) none)
    (c.self.invariant.1.history.accounts.accounted.doubted w.committed pending.doubted) reserved.2 c.self.invariant.1

pub invariant_of-self-then-kept : goal.invariant_of-self-then-kept
invariant_of-self-then-kept c = (ap (λ (x : Kept Committed). x.board) c.commit.ensures.rest ∙ c.self.invariant.0, returns-then-kept-clause-sound c)
