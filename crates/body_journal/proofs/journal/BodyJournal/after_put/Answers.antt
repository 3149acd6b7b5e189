use Rattle.std.proofs.Common.{ℕ, Result, sym, subst}
use Rattle.record_log.specs.declared.fault.LogFault.{LogFault}
use Rattle.body_journal.specs.Marks.{IsDecidedBy}
use Rattle.body_journal.proofs.journal.BodyJournal.after_put.Goals as goal

pub returns-in-Ok-clause-decided : goal.returns-in-Ok-clause-decided
returns-in-Ok-clause-decided c =
    subst
    (λ (put : Result ℕ LogFault). IsDecidedBy put c.args.self.now.tally.stored c.args.self.now.tally.grouped c.args.self.now.held.items c.decide.new.self.tally.stored c.decide.new.self.tally.grouped
    c.decide.new.self.held.items)
    (sym c.in-Ok.is) (record { stored_is = c.decide.ensures.stored; grouped_is = c.decide.ensures.grouped; held_is = c.decide.ensures.held })
