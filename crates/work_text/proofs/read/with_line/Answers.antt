use Rattle.std.proofs.Common.{refl, sym, ◌∙◌, None}
use Rattle.work_text.specs.WorkReading.{IsReadingOf}
use Rattle.work_text.proofs.WorkLines.{no_front}
use Rattle.work_text.proofs.read.with_line.Goals as goal

pub returns-in_default-2-clause-fault : goal.returns-in_default-2-clause-fault
returns-in_default-2-clause-fault c =
    let line = c.args.line.now in
    let none : IsReadingOf line None = rw c.in_default-2.is at c.in_ok-next.ensures in (
      refl,
      sym c.is_skipped.ensures ∙ c.if-is_skipped.false,
      λ more. no_front c.in-Some.lines line none (rw c.in-Some.is at more),
    )
