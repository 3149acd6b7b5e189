-- Private: how a scan goes on behind what it has read.
use Rattle.std.specs.Prelude.{◌≡◌, ℕ, List, Bool, true, false, Option, Some, None}
use Rattle.fed_bytes.specs.declared.span.Span.{Span}
use Rattle.fed_bytes.specs.Keys.{IsIn}

-- what was read ends before the next key, if there is one, else where its part ends
abbrev pub read_end : Option (List ℕ) → Option (List ℕ) → Option (List ℕ)
read_end None right = right
read_end (Some next) right = Some next

-- what is left begins at that end, if that is one of its keys; else nothing is left
abbrev pub GoesOn : Span → Option (List ℕ) → Span → Bool → Type 0
GoesOn old None new done = (done ≡ true) × (new ≡ old)
GoesOn old (Some end) new true = (¬ IsIn old end) × (new ≡ old)
GoesOn old (Some end) new false = IsIn old end × (new ≡ record old { left = end })
