use Rattle.std.proofs.Common.{◌+◌, ◌≤◌, length}
use Rattle.work_text.proofs.WorkScan.{IsScanned}
use Rattle.work_text.proofs.read.read_work.Given as goal

abbrev pub invariant-lines : goal.invariant-lines
invariant-lines l = IsScanned l.bytes l.rest l.number l.read × (l.number + length l.rest ≤ length l.bytes + 1)

abbrev pub decreases-lines : goal.decreases-lines
decreases-lines l = length l.rest
