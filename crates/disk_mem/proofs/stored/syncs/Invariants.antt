use Rattle.disk_mem.proofs.Redone.{CountSoFar}
use Rattle.disk_mem.proofs.stored.syncs.Given as goal

abbrev pub invariant-calls : goal.invariant-calls
invariant-calls l = CountSoFar l.counts l.calls l.call-index
