use Rattle.std.proofs.Common.{Bool, sym, ◌∙◌, subst, refl}
use Rattle.body_journal.specs.Marks.{AreDecidedUnless}
use Rattle.body_journal.proofs.journal.BodyJournal.after_fault.Goals as goal

pub returns-then-is_failed-clause-decided : goal.returns-then-is_failed-clause-decided
returns-then-is_failed-clause-decided c =
    subst (λ (failed : Bool). AreDecidedUnless failed c.args.self.now.tally.stored c.args.self.now.tally.grouped c.args.self.now.held.items c.args.self.now.tally.stored c.args.self.now.tally.grouped c.args.self.now.held.items)
    (sym c.if-is_failed.true ∙ c.is_failed.ensures) (record { stored_is = refl; grouped_is = refl; held_is = refl })

pub returns-clause-decided : goal.returns-clause-decided
returns-clause-decided c =
    subst (λ (failed : Bool). AreDecidedUnless failed c.args.self.now.tally.stored c.args.self.now.tally.grouped c.args.self.now.held.items c.decide.new.self.tally.stored c.decide.new.self.tally.grouped c.decide.new.self.held.items)
    (sym c.if-is_failed.false ∙ c.is_failed.ensures) (record { stored_is = c.decide.ensures.stored; grouped_is = c.decide.ensures.grouped; held_is = c.decide.ensures.held })
