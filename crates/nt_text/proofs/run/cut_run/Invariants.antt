use Rattle.std.proofs.Common.{◌≡◌, ◌++◌, take, drop}
use Rattle.nt_text.specs.Reading.{is_of, run, behind_run}
use Rattle.nt_text.proofs.run.cut_run.Given as goal

abbrev pub invariant-loop-at : goal.invariant-loop-at
invariant-loop-at l =
    (run (is_of l.class) l.bytes ≡ take l.at l.bytes ++ run (is_of l.class) (drop l.at l.bytes))
    × (behind_run (is_of l.class) l.bytes ≡ behind_run (is_of l.class) (drop l.at l.bytes))
