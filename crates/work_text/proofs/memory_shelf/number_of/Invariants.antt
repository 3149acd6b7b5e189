use Rattle.std.proofs.Common.{◌≡◌, drop}
use Rattle.work_text.specs.Outside.{document_named}
use Rattle.work_text.proofs.memory_shelf.number_of.Given as goal

abbrev pub invariant-loop-number : goal.invariant-loop-number
invariant-loop-number l = document_named (drop l.number l.documents) l.name ≡ document_named l.documents l.name
