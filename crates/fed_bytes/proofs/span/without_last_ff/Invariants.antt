use Rattle.std.proofs.Common.{◌≡◌, length}
use Rattle.fed_bytes.specs.Ends.{end_of}
use Rattle.fed_bytes.proofs.span.without_last_ff.Given as goal

abbrev pub invariant-ends : goal.invariant-ends
invariant-ends l = end_of l.rest ≡ end_of l.fn.bytes

abbrev pub decreases-ends : goal.decreases-ends
decreases-ends l = length l.rest
