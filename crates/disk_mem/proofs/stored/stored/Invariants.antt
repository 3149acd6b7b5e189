use Rattle.disk_mem.specs.Contents.{bytes_in}
use Rattle.disk_mem.proofs.Redone.{RedoneSoFar}
use Rattle.disk_mem.proofs.stored.stored.Given as goal

abbrev pub invariant-calls : goal.invariant-calls
invariant-calls l = RedoneSoFar (bytes_in l.first.files) l.calls l.call-index l.left l.stored.files
