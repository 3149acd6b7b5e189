-- What the files of a service's disk say. Journal j is file 2 j, from 1 on. Its bodies are numbered from 1 through its journals.
use Rattle.std.specs.Prelude.{◌≡◌, ℕ, zero, suc, ◌-◌, ◌*◌, ◌^◌, ◌<◌, ◌≤◌, List, [], ◌++◌, map, Some, slice_get}
use Rattle.std.specs.List.{flat_map, AllByRecursion}
use Rattle.disk_core.specs.Moments.{State, Images, EachImage}
use Rattle.record_log.specs.Records.{IsLog}
use Rattle.body_journal.specs.Groups.{IsGroup, group_bytes}

-- the image is a log, and its records are these groups
pub record IsJournal (image : List ℕ) (groups : List (List (List ℕ))) : Type 0 where
  pub log : IsLog image (map group_bytes groups)
  pub are : AllByRecursion IsGroup groups

-- the bodies of groups, one behind the other
abbrev pub bodies_in : List (List (List ℕ)) → List (List ℕ)
bodies_in groups = flat_map (λ (group : List (List ℕ)). group) groups

-- those of the first so many journals
abbrev pub bodies_upto : (ℕ → List (List (List ℕ))) → ℕ → List (List ℕ)
bodies_upto groups zero = []
bodies_upto groups (suc j) = bodies_upto groups j ++ bodies_in (groups (suc j))

-- The journals of a disk hold these bodies, in order; so many have all of them. A disk has at most 2 ^ 62 journals, and what else lies on it isn't read.
pub record HasBodies (images : ℕ → List ℕ) (bodies : List (List ℕ)) : Type 0 where
  pub journals : ℕ
  pub few : journals ≤ 2 ^ 62
  pub groups : ℕ → List (List (List ℕ))
  pub each : (j : ℕ) → 0 < j → j ≤ 2 ^ 62 → IsJournal (images (2 * j)) (groups j)
  pub behind : (j : ℕ) → journals < j → groups j ≡ []
  pub bodies_are : bodies ≡ bodies_upto groups journals

-- the body has this number among them
pub record IsAt (bodies : List (List ℕ)) (number : ℕ) (body : List ℕ) : Type 0 where
  pub numbered : 0 < number
  pub named : slice_get bodies (number - 1) ≡ Some body

-- whatever a crash at this moment leaves, the files hold these bodies, and perhaps more behind them
abbrev pub LeavesBodies : List (List ℕ) → State → Type 0
LeavesBodies bodies state = (images : ℕ → List ℕ) → Images state images → (more : List (List ℕ)) × HasBodies images (bodies ++ more)

-- each image of a journal before this one has its groups
abbrev pub KeepsJournals : State → (ℕ → List (List (List ℕ))) → ℕ → Type 0
KeepsJournals state groups last = (j : ℕ) → 0 < j → j < last → EachImage (2 * j) (λ image. IsJournal image (groups j)) state

-- the files of the journals behind this one are missing, or a start has begun them
abbrev pub AreFreshBehind : State → ℕ → Type 0
AreFreshBehind state last = (j : ℕ) → last < j → j ≤ 2 ^ 62 → (state (2 * j)).longest ≤ 1
