-- What the calls of a device do to its count of faults and to its files, where it tells them.
use Rattle.std.specs.Prelude.{◌≡◌, ◌≢◌, ℕ, ◌-◌, ◌<◌, ◌≤◌, ◌^◌, List, [], length, take, drop, Option, Some, None, Result, OnErr, ◌⊎◌}
use Rattle.disk_core.specs.Files.{written, synced, removed, IsTornFile, IsPerhapsRemoved}
use Rattle.disk_core.specs.Moments.{Told, Steps, StepsPerhaps, BothTell, IsSoundState}

-- the files that a device tells are sound
abbrev pub TellsSound : Option Told → Type 0
TellsSound None = Unit {0}
TellsSound (Some told) = IsSoundState told.now

-- ---- reads. A missing file has no bytes.

abbrev pub IsLengthOf : Option Told → ℕ → ℕ → Type 0
IsLengthOf None file n = Unit {0}
IsLengthOf (Some told) file n = n ≡ length (told.now file).content

-- n is the greatest number of a file that isn't missing, or 0
abbrev pub IsGreatest : Option Told → ℕ → Type 0
IsGreatest None n = Unit {0}
IsGreatest (Some told) n =
    ((file : ℕ) → file < 2 ^ 64 → n < file → (told.now file).content ≡ []) × (0 < n → (told.now n).content ≢ [])

-- the bytes are what stands from a place on, as far as there is room
abbrev pub IsReadAt : Option Told → ℕ → ℕ → ℕ → List ℕ → Type 0
IsReadAt None file at room bytes = Unit {0}
IsReadAt (Some told) file at room bytes = bytes ≡ take room (drop at (told.now file).content)

-- ---- changes

abbrev pub IsWritten : ℕ → ℕ → List ℕ → Option Told → Option Told → Type 0
IsWritten file at bytes = BothTell (Steps file (λ old new. new ≡ written old at bytes))

-- a write that failed may have left anything in its range, or nothing at all
abbrev pub IsPerhapsWritten : ℕ → ℕ → ℕ → Option Told → Option Told → Type 0
IsPerhapsWritten file at count = BothTell (StepsPerhaps file (IsTornFile at count))

abbrev pub IsSynced : ℕ → Option Told → Option Told → Type 0
IsSynced file = BothTell (Steps file (λ old new. new ≡ synced old))

abbrev pub IsRemoved : ℕ → Option Told → Option Told → Type 0
IsRemoved file = BothTell (Steps file (λ old new. new ≡ removed old))

abbrev pub IsHalfRemoved : ℕ → Option Told → Option Told → Type 0
IsHalfRemoved file = BothTell (StepsPerhaps file IsPerhapsRemoved)
