use Rattle.std.proofs.Common.{length, sym, ap, ◌∙◌, subst}
use Rattle.history_board.specs.Tokens.{Kept}
use Rattle.change_model.specs.declared.history.Committed.{Committed}
use Rattle.commit_core.specs.Rooms.{IsDecidedFor}
use Rattle.commit_core.specs.Ledgers.{Ledgered}
use Rattle.commit_core.proofs.Ledgers.{ledger_enrolled}
use Rattle.commit_core.proofs.ledger.Ledger.enrol.Goals as goal

pub invariant_of-self : goal.invariant_of-self
invariant_of-self c =
    let i = c.self.inside in (
      ap (λ (k : Kept Committed). k.board) c.enrol.ensures.kept ∙ c.self.invariant.0,
      ledger_enrolled i.keeper c.enrol.new.self i.book i.book c.args.session (length i.keeper.seen) _ c.enrol.ensures.kept c.enrol.ensures.sound
          (subst (λ (l : Ledgered). IsDecidedFor l.waiting c.args.session) (sym c.self.view_is) c.requires.decided) c.self.invariant.1,
    )

pub returns-clause-sound : goal.returns-clause-sound
returns-clause-sound c =
    let i = c.self.inside in
    ledger_enrolled i.keeper c.enrol.new.self i.book i.book c.args.session (length i.keeper.seen) _ c.enrol.ensures.kept c.enrol.ensures.sound
    (subst (λ (l : Ledgered). IsDecidedFor l.waiting c.args.session) (sym c.self.view_is) c.requires.decided) c.self.invariant.1
