-- Private: what a write leaves that is synced.
use Rattle.std.specs.Prelude.{◌≡◌, ℕ, List, ◌∷◌, Option}
use Rattle.disk_core.specs.Files.{written, synced}
use Rattle.disk_core.specs.Moments.{Told, State, moments, SameBut, BothTell}

-- the device has gone on by two moments: the bytes are written, and then they are stored
pub record GoesThrough (file at : ℕ) (bytes : List ℕ) (old new : Told) : Type 0 where
  pub between : State
  pub past : new.past ≡ between ∷ moments old
  pub others_between : SameBut file old.now between
  pub others : SameBut file between new.now
  pub is_written : between file ≡ written (old.now file) at bytes
  pub is_synced : new.now file ≡ synced (between file)

abbrev pub IsWrittenThrough : ℕ → ℕ → List ℕ → Option Told → Option Told → Type 0
IsWrittenThrough file at bytes = BothTell (GoesThrough file at bytes)
