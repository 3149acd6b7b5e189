use Rattle.window_core.proofs.Taking.{IsTaking}
use Rattle.window_core.proofs.run.taken.Given as goal

-- of the rows so far those in the span are taken
abbrev pub invariant-rows : goal.invariant-rows
invariant-rows l = IsTaking l.span l.rows l.row-index l.run
