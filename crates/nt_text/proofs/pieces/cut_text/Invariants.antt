use Rattle.std.proofs.Common.{List, ℕ, length}
use Rattle.nt_text.proofs.PieceTexts.{IsSoFar}
use Rattle.nt_text.proofs.pieces.cut_text.Given as goal

abbrev pub invariant-pieces : goal.invariant-pieces
invariant-pieces l = (said : List ℕ) × IsSoFar l.between l.bytes l.rest said

abbrev pub decreases-pieces : goal.decreases-pieces
decreases-pieces l = length l.rest
