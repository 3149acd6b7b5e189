-- The pins that are out: a list that has the time of each at its number.
use Rattle.std.specs.Prelude.{◌≡◌, ℕ, ◌<◌, ◌≤◌, Option, None, Some, List, [], ◌∷◌, ◌++◌, length, slice_get, slice_set, nat_lt, if◌then◌else◌}

-- the pin of this number is out, at this time
abbrev pub IsOut : List (Option ℕ) → ℕ → ℕ → Type 0
IsOut out number time = slice_get out number ≡ Some (Some time)

-- no pin has this number, which is the next one or one that was taken back
pub record IsFree (out : List (Option ℕ)) (number : ℕ) : Type 0 where
  pub within : number ≤ length out
  pub free : number < length out → slice_get out number ≡ Some None

-- the pins that are out once this one is too
abbrev pub put_out : List (Option ℕ) → ℕ → ℕ → List (Option ℕ)
put_out out number time = if nat_lt number (length out) then slice_set out number (Some time) else out ++ Some time ∷ []
