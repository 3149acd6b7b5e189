use Rattle.std.proofs.Common.{◌≡◌, ◌+◌, [], ◌∷◌, ◌++◌, length, sym, ap, ◌∙◌, subst, arith}
use Rattle.std.specs.Arc.{arc_value}
use Rattle.history_board.specs.Tokens.{Kept}
use Rattle.change_model.specs.declared.history.Committed.{Committed}
use Rattle.change_model.specs.Entries.{IsEntry}
use Rattle.commit_core.specs.Ledgers.{Ledgered, ledgered}
use Rattle.commit_core.proofs.Histories.{found_bears}
use Rattle.commit_core.proofs.Ledgers.{ledger_found, found_is}
use Rattle.commit_core.proofs.ledger.Ledger.found.Goals as goal

pub returns-clause-sound : goal.returns-clause-sound
returns-clause-sound c =
    let i = c.self.inside in
    let k = i.keeper in
    let none : k.since ≡ [] = ap (λ (l : Ledgered). l.keeper.since) c.self.view_is ∙ c.requires.none in
    let entry_is : IsEntry (length k.seen + 1) (arc_value c.args.entry) =
    subst (λ (l : Ledgered). IsEntry (length l.keeper.seen + 1) (arc_value c.args.entry)) (sym c.self.view_is) c.requires.entry in
    ledger_found k c.commit.new.self i.book c.add_found.new.self c.args.committed.now (arc_value c.args.entry) _
    c.commit.ensures.appended (ap (λ (x : Kept Committed). x.since) c.commit.ensures.rest) c.commit.ensures.sound none c.add_found.ensures.added
    (subst (λ n. IsEntry n (arc_value c.args.entry)) (omega arith) entry_is) c.self.invariant.1

pub invariant_of-self : goal.invariant_of-self
invariant_of-self c = (ap (λ (x : Kept Committed). x.board) c.commit.ensures.rest ∙ c.self.invariant.0, returns-clause-sound c)

pub returns-clause-is : goal.returns-clause-is
returns-clause-is c =
    let i = c.self.inside in
    let k = i.keeper in
    let k' = c.commit.new.self in
    let e = c.args.committed.now in
    let entry = arc_value c.args.entry in
    let b' = c.add_found.new.self in
    let none : k.since ≡ [] = ap (λ (l : Ledgered). l.keeper.since) c.self.view_is ∙ c.requires.none in
    let bears : k'.bears ≡ k.bears = found_bears k k' e c.self.invariant.1.history.accounts none c.commit.ensures.own in
    let keeper_is : k' ≡ record k { seen = k.seen ++ e ∷ [] } =
    c.commit.ensures.rest
    ∙ (ap (λ s. record k { seen = s; bears = k'.bears }) c.commit.ensures.appended ∙ ap (λ bs. record k { seen = k.seen ++ e ∷ []; bears = bs }) bears) in
    subst (λ (l : Ledgered). ledgered k' b' ≡ record l { keeper = record l.keeper { seen = l.keeper.seen ++ e ∷ [] }; entries = l.entries ++ entry ∷ []; room = b'.room }) c.self.view_is
    (found_is k k' i.book b' e entry keeper_is c.add_found.ensures.added)
