use Rattle.std.proofs.Common.{◌≤◌, length}
use Rattle.disk_file.proofs.files.read_from.Given as goal

abbrev pub invariant-reads : goal.invariant-reads
invariant-reads l = l.count ≤ length l.out
