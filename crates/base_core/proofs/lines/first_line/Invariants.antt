use Rattle.std.proofs.Common.{◌≡◌, take, drop}
use Rattle.base_core.specs.Lines.{lines_of}
use Rattle.base_core.proofs.LineFronts.{onto_front}
use Rattle.base_core.proofs.lines.first_line.Given as goal

abbrev pub invariant-loop-at : goal.invariant-loop-at
invariant-loop-at l = lines_of l.end l.bytes ≡ onto_front (take l.at l.bytes) (lines_of l.end (drop l.at l.bytes))
