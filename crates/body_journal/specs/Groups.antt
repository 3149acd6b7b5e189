-- Groups of bodies. A group is the body of one record of a journal: a count, and for each of its bodies the length and the bytes.
use Rattle.std.specs.Prelude.{ℕ, ◌+◌, ◌<◌, ◌≤◌, ◌^◌, List, [], ◌∷◌, ◌++◌, length, take}
use Rattle.std.specs.List.{flat_map, AllByRecursion}
use Rattle.base_core.specs.Numbers.{length_bytes}

-- a body in a group: its length and its bytes
abbrev pub body_field : List ℕ → List ℕ
body_field body = length_bytes (length body) ++ body

abbrev pub group_bytes : List (List ℕ) → List ℕ
group_bytes bodies = length_bytes (length bodies) ++ flat_map body_field bodies

abbrev pub IsShort : List ℕ → Type 0
IsShort body = length body < 2 ^ 32

-- a group has a body, and its count and its lengths fit four bytes
pub record IsGroup (bodies : List (List ℕ)) : Type 0 where
  pub some : 0 < length bodies
  pub few : length bodies < 2 ^ 32
  pub short : AllByRecursion IsShort bodies

-- how many bytes a group has
abbrev pub group_size : List (List ℕ) → ℕ
group_size [] = 4
group_size (body ∷ bodies) = 4 + length body + group_size bodies

-- Behind a first body a group has the first k of the others: as many as it may have with at most 2 ^ 30 bytes.
pub record IsFullest (first : List ℕ) (others : List (List ℕ)) (k : ℕ) : Type 0 where
  pub front : k ≤ length others
  pub within : group_size (first ∷ take k others) ≤ 2 ^ 30
  pub longest : k < length others → 2 ^ 30 < group_size (first ∷ take (k + 1) others)
