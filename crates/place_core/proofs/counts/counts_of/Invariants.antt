use Rattle.std.proofs.Common.{◌≡◌, ◌+◌, ◌<◌, ℕ, take, slice_index, vec_len}
use Rattle.place_core.specs.Places.{lines_of_service}
use Rattle.place_core.proofs.counts.counts_of.Given as goal

-- the lines so far are counted
abbrev pub invariant-lines : goal.invariant-lines
invariant-lines l = record {
  long : vec_len l.counts ≡ l.services;
  each : (before : ℕ) → before < l.services → slice_index l.counts.items before ≡ lines_of_service (before + 1) (take l.line-index l.lines);
}
