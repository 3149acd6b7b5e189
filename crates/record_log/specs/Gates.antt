-- Private: what is found at the gates of a file, where the device tells it.
use Rattle.std.specs.Prelude.{◌≡◌, ◌≢◌, ◌↔◌, ℕ, ◌<◌, ◌^◌, List, ◌∷◌, ◌++◌, length, drop, map, Bool, IsTrue, Option, Some, None, Result, Ok, Err, slice_index}
use Rattle.disk_core.specs.Moments.{Told}
use Rattle.record_log.specs.declared.fault.LogFault.{LogFault}
use Rattle.record_log.specs.declared.fault.LogFault.TheVariants.{NoMemory, Failed, NeedsMend, Full, BadRecord}
use Rattle.record_log.specs.declared.gates.Head.{Head}
use Rattle.record_log.specs.declared.gates.Head.TheVariants.{Closed, Open, Short}
use Rattle.base_core.specs.Numbers.{length_bytes}
use Rattle.record_log.specs.Records.{Spells, IsBadFrom}

-- the gate at this place is open
abbrev pub IsOpenAt : Option Told → ℕ → ℕ → Bool → Type 0
IsOpenAt None file gate open_gate = Unit {0}
IsOpenAt (Some told) file gate open_gate = IsTrue open_gate ↔ (slice_index (told.now file).content gate ≡ 1)

-- the bytes begin with a closed gate
pub record AreClosed (bytes : List ℕ) : Type 0 where
  pub gate : ℕ
  pub rest : List ℕ
  pub closed : gate ≢ 1
  pub are : bytes ≡ gate ∷ rest

-- the bytes begin with an open gate and the length of a body
pub record AreOpen (bytes : List ℕ) (size : ℕ) : Type 0 where
  pub rest : List ℕ
  pub short : size < 2 ^ 32
  pub are : bytes ≡ 1 ∷ (length_bytes size ++ rest)

-- the bytes begin with an open gate, and fewer than four bytes follow
pub record AreShort (bytes : List ℕ) : Type 0 where
  pub rest : List ℕ
  pub short : length rest < 4
  pub are : bytes ≡ 1 ∷ rest

abbrev pub IsHead : List ℕ → Head → Type 0
IsHead bytes Closed = AreClosed bytes
IsHead bytes (Open body) = AreOpen bytes body
IsHead bytes Short = AreShort bytes

-- behind the open gate stand a record, whose body has this size, and the next gate
pub record AreWhole (bytes : List ℕ) (size : ℕ) : Type 0 where
  pub head : AreOpen bytes size
  pub enough : size < length head.rest

-- what stands from a gate on
abbrev pub IsBehind : List ℕ → ℕ → Result (Option ℕ) LogFault → Type 0
IsBehind bytes gate (Ok None) = AreClosed (drop gate bytes)
IsBehind bytes gate (Ok (Some body)) = AreWhole (drop gate bytes) body
IsBehind bytes gate (Err Failed) = Unit {0}
IsBehind bytes gate (Err (BadRecord at)) = (at ≡ gate) × IsBadFrom (drop gate bytes) 0
IsBehind bytes gate (Err NoMemory) = ⊥
IsBehind bytes gate (Err NeedsMend) = ⊥
IsBehind bytes gate (Err Full) = ⊥

-- the bytes are the records of bodies that have these sizes
pub record AreFound (bytes : List ℕ) (sizes : List ℕ) : Type 0 where
  pub bodies : List (List ℕ)
  pub spelled : Spells bytes bodies
  pub sizes_are : sizes ≡ map length bodies
