use Rattle.std.proofs.Common.{◌≡◌, ◌≤◌, ℕ, List, ◌++◌, length}
use Rattle.work_text.specs.Outside.{IsTaken}
use Rattle.bigfed.proofs.sink.write_whole.Given as goal

-- the sink took the front that is behind us, and no write failed
abbrev pub invariant-pieces : goal.invariant-pieces
invariant-pieces g l =
    ((front : List ℕ) × (l.text ≡ front ++ l.rest) × IsTaken (g.K.Sink.taken l.fn.sink) (g.K.Sink.taken l.sink) front)
    × (g.K.Sink.fault_count l.sink ≡ g.K.Sink.fault_count l.fn.sink)

abbrev pub decreases-pieces : goal.decreases-pieces
decreases-pieces g l = length l.rest
