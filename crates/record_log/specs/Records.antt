-- What the bytes of a log file stand for. A log is a gate byte, and then for each record its length, its body and the next gate. The gate 1 is
-- open and any other is closed; what stands behind the first closed gate means nothing.
use Rattle.std.specs.Prelude.{◌≡◌, ◌≢◌, ℕ, ◌+◌, ◌<◌, ◌≤◌, ◌^◌, List, [], ◌∷◌, ◌++◌, length, ◌⊎◌}
use Rattle.base_core.specs.Numbers.{length_bytes}

-- behind an open gate stand the length of a body, the body, and what goes on with the next gate
pub record IsRecord (behind body : List ℕ) (gate : ℕ) (rest : List ℕ) : Type 0 where
  pub short : length body < 2 ^ 32
  pub are : behind ≡ length_bytes (length body) ++ body ++ gate ∷ rest

-- from a gate on, the bytes are records of these bodies, up to the first closed gate
pub data Spells : List ℕ → List (List ℕ) → Type 0 where
  at_closed_gate : (gate : ℕ) (rest : List ℕ) → gate ≢ 1 → Spells (gate ∷ rest) []
  behind_open_gate : (behind body : List ℕ) (gate : ℕ) (rest : List ℕ) (bodies : List (List ℕ)) → IsRecord behind body gate rest
      → Spells (gate ∷ rest) bodies → Spells (1 ∷ behind) (body ∷ bodies)

-- a file of at most one byte is an empty log
abbrev pub IsLog : List ℕ → List (List ℕ) → Type 0
IsLog bytes bodies = ((length bytes ≤ 1) × (bodies ≡ [])) ⊎ Spells bytes bodies

-- how many bytes the records of these bodies have, with the gate before each
abbrev pub size_of : List (List ℕ) → ℕ
size_of [] = 0
size_of (body ∷ bodies) = 5 + length body + size_of bodies

-- from a gate on, the gate at this place is the first open one behind which no record and next gate stand
pub data IsBadFrom : List ℕ → ℕ → Type 0 where
  here : (behind : List ℕ) → ((body : List ℕ) (gate : ℕ) (rest : List ℕ) → ¬ IsRecord behind body gate rest) → IsBadFrom (1 ∷ behind) 0
  further : (behind body : List ℕ) (gate : ℕ) (rest : List ℕ) (at : ℕ) → IsRecord behind body gate rest
      → IsBadFrom (gate ∷ rest) at → IsBadFrom (1 ∷ behind) (5 + length body + at)

abbrev pub IsBadLog : List ℕ → ℕ → Type 0
IsBadLog bytes at = (1 < length bytes) × IsBadFrom bytes at
