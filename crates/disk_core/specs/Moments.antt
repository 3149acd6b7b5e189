-- The moments of a device, at each of which it may crash.
use Rattle.std.specs.Prelude.{◌≡◌, ◌≢◌, ℕ, List, ◌∷◌, ◌++◌, Option, Some, None, ◌⊎◌}
use Rattle.std.specs.List.{AllByRecursion}
use Rattle.disk_core.specs.Files.{FileState, IsImage, IsSound}

-- all files of a device, by their numbers
abbrev pub State : Type 0
State = ℕ → FileState

-- A device that tells: how it stands, and how it stood before, the newest first. What a crash within a call may leave is what one before the
-- call or one behind it may leave: a write or a removal that has begun only adds to that, and a sync only takes away.
pub record Told : Type 0 where
  pub now : State
  pub past : List State

abbrev pub moments : Told → List State
moments told = told.now ∷ told.past

-- what reads give of each file, where it is told
abbrev pub contents : Option Told → Option (ℕ → List ℕ)
contents None = None
contents (Some told) = Some (λ file. (told.now file).content)

-- a crash at this moment may leave these images of the files
abbrev pub Images : State → (ℕ → List ℕ) → Type 0
Images state images = (file : ℕ) → IsImage (state file) (images file)

-- each image of the file that a crash at this moment may leave has P
abbrev pub EachImage : ℕ → (List ℕ → Type 0) → State → Type 0
EachImage file P state = (image : List ℕ) → IsImage (state file) image → P image

abbrev pub IsSoundState : State → Type 0
IsSoundState state = (file : ℕ) → IsSound (state file)

-- all files but one are as they were
abbrev pub SameBut : ℕ → State → State → Type 0
SameBut file old new = (other : ℕ) → other ≢ file → new other ≡ old other

-- the device has gone on by one moment, in which one file has changed so
pub record Steps (file : ℕ) (Changes : FileState → FileState → Type 0) (old new : Told) : Type 0 where
  pub past : new.past ≡ moments old
  pub others : SameBut file old.now new.now
  pub changed : Changes (old.now file) (new.now file)

-- the device is as it was, or has gone on by one moment
abbrev pub StepsPerhaps : ℕ → (FileState → FileState → Type 0) → Told → Told → Type 0
StepsPerhaps file Changes old new = (new ≡ old) ⊎ Steps file Changes old new

-- the device has gone on, by moments that each have Q
pub record MomentsGoOn (Q : State → Type 0) (old new : Told) : Type 0 where
  pub come : List State
  pub are : moments new ≡ come ++ moments old
  pub each : AllByRecursion Q come

-- a device that tells goes on telling, and has gone on so; one that doesn't tell goes on not telling
abbrev pub BothTell : (Told → Told → Type 0) → Option Told → Option Told → Type 0
BothTell R None None = Unit {0}
BothTell R None (Some new) = ⊥
BothTell R (Some old) None = ⊥
BothTell R (Some old) (Some new) = R old new
