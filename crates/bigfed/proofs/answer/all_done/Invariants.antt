use Rattle.std.proofs.Common.{◌≡◌, drop}
use Rattle.bigfed.specs.Program.{all_done}
use Rattle.bigfed.proofs.answer.all_done.Given as goal

abbrev pub invariant-loop-of_session : goal.invariant-loop-of_session
invariant-loop-of_session l = all_done l.outcomes ≡ all_done (drop l.of_session-index l.outcomes)
