-- Counts of faults. Each object of the outside counts its faults in a number that never falls.
use Rattle.std.specs.Prelude.{◌≡◌, ℕ, ◌-◌, ◌<◌, ◌≤◌, ◌^◌, Result, OnErr, ◌⊎◌}

-- a count of faults has risen; one that stands at its last value counts as risen
abbrev pub HasRisen : ℕ → ℕ → Type 0
HasRisen before now = (before < now) ⊎ (now ≡ 2 ^ 64 - 1)

-- the count of faults doesn't fall, and a fault is answered only where it has risen
pub record IsCounted {T E : Type 0} (before now : ℕ) (result : Result T E) : Type 0 where
  pub later : before ≤ now
  pub cause : OnErr result (HasRisen before now)
