-- A record with the gate behind it, closed.
use Rattle.std.specs.Prelude.{◌≡◌, ◌<◌, ◌^◌, ℕ, ◌-◌, List, [], ◌∷◌, ◌++◌, length, take, drop}
use Rattle.base_core.specs.Numbers.{length_bytes}

-- the bytes between a length and a gate
abbrev pub body_in : List ℕ → List ℕ
body_in bytes = take (length bytes - 5) (drop 4 bytes)

-- the bytes are the length of this body, the body, and a closed gate
pub record IsClosedRecord (bytes body : List ℕ) : Type 0 where
  pub short : length body < 2 ^ 32
  pub are : bytes ≡ length_bytes (length body) ++ body ++ 0 ∷ []
