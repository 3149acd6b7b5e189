use Rattle.std.proofs.Common.{length}
use Rattle.nt_text.proofs.Documents.{SoFar}
use Rattle.nt_text.proofs.document.read_document.Given as goal

abbrev pub invariant-lines : goal.invariant-lines
invariant-lines l = SoFar l.fn.bytes l.rest l.number l.first_label l.statements.items

abbrev pub decreases-lines : goal.decreases-lines
decreases-lines l = length l.rest
