use Rattle.std.proofs.Common.{refl}
use Rattle.body_journal.specs.declared.held.Stage.TheVariants.{Waiting}
use Rattle.body_journal.proofs.Gathering.{pushed}
use Rattle.body_journal.proofs.journal.BodyJournal.queue_body.Goals as goal

pub returns-clause-known : goal.returns-clause-known
returns-clause-known c = λ serial bytes before.
    pushed c.args.self.now.held.items c.push.new.self.items (record { serial = c.in-Some.serial; body = c.in_ok-try_clone.field-0; stage = Waiting }) c.in_ok-push.ensures.items refl serial bytes before
