-- Words on a device that may tell its files.
use Rattle.std.specs.Prelude.{◌≡◌, ◌≤◌, ℕ, List, Option, Some, None}
use Rattle.disk_core.specs.Files.{IsStored}
use Rattle.disk_core.specs.Moments.{Told, State, EachImage, SameBut, MomentsGoOn, BothTell}

-- the device tells that the file reads as these bytes
abbrev pub ReadsFile : Option Told → ℕ → List ℕ → Type 0
ReadsFile None file bytes = ⊥
ReadsFile (Some told) file bytes = (told.now file).content ≡ bytes

-- and nothing of it is pending
abbrev pub IsStoredAs : Option Told → ℕ → List ℕ → Type 0
IsStoredAs None file bytes = ⊥
IsStoredAs (Some told) file bytes = IsStored (told.now file) bytes

-- The device tells that the file has had at most one byte since its last sync, so that no image has more. A missing file that is at rest is so,
-- and one that a start has begun.
abbrev pub IsFresh : Option Told → ℕ → Type 0
IsFresh None file = ⊥
IsFresh (Some told) file = (told.now file).longest ≤ 1

-- a fact about a device that tells
abbrev pub WhereTold : Option Told → Type 0 → Type 0
WhereTold None P = Unit {0}
WhereTold (Some told) P = P

-- at each new moment each image of the file has P, and all other files are as they were
abbrev pub MomentsHave : ℕ → (List ℕ → Type 0) → Option Told → Option Told → Type 0
MomentsHave file P = BothTell (λ old new. MomentsGoOn (λ state. SameBut file old.now state × EachImage file P state) old new)

-- at each new moment all other files are as they were
abbrev pub ChangesOnly : ℕ → Option Told → Option Told → Type 0
ChangesOnly file = MomentsHave file (λ image. Unit {0})

-- at each new moment the file is as it was
abbrev pub IsLeftAlone : ℕ → Option Told → Option Told → Type 0
IsLeftAlone file = BothTell (λ old new. MomentsGoOn (λ state. state file ≡ old.now file) old new)

-- at each new moment each image of the file has P, whatever became of the other files
abbrev pub MomentsLeave : ℕ → (List ℕ → Type 0) → Option Told → Option Told → Type 0
MomentsLeave file P = BothTell (MomentsGoOn (EachImage file P))

-- each image of each file has what is claimed of that file
abbrev pub EachFile : (ℕ → List ℕ → Type 0) → State → Type 0
EachFile Claim state = (file : ℕ) → EachImage file (Claim file) state

-- the same at each new moment
abbrev pub FilesLeave : (ℕ → List ℕ → Type 0) → Option Told → Option Told → Type 0
FilesLeave Claim = BothTell (MomentsGoOn (EachFile Claim))
