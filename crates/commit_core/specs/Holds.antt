-- When images of all disks hold a history. Disk 0 has the commit log as file 0. The disks from 1 on are the services', and journal j of one is its file 2 j.
use Rattle.std.specs.Prelude.{◌≡◌, ℕ, ◌-◌, ◌<◌, ◌≤◌, ◌^◌, List, ◌++◌, map, Option, Some, None}
use Rattle.std.specs.List.{slice_get, AllByRecursion}
use Rattle.body_codec.specs.Body.{HasSpelling, IsBodyOf}
use Rattle.body_journal.specs.Journals.{HasBodies, IsAt}
use Rattle.change_model.specs.History.{History}
use Rattle.record_log.specs.Items.{IsMidway, LogsItems}
use Rattle.record_log.specs.Records.{IsLog}
use Rattle.commit_core.specs.Records.{Recorded, record_bytes, committed_in}

-- The change of the entry is in its home's journals: the body of the named number there is its body, and it may have one, so that a reader takes the
-- body for this change. The number fits eight bytes.
pub record IsHeldIn (services : ℕ) (images : ℕ → ℕ → List ℕ) (entry : Recorded) : Type 0 where
  pub first : 0 < entry.home
  pub last : entry.home ≤ services
  pub bodies : List (List ℕ)
  pub has : HasBodies (images entry.home) bodies
  pub numbered : 0 < entry.number
  pub fits : entry.number < 2 ^ 64
  pub body : List ℕ
  pub named : slice_get bodies (entry.number - 1) ≡ Some body
  pub spells : IsBodyOf entry.committed.change body
  pub has_spelling : HasSpelling entry.committed.change

-- What holds of all other disks when the commit log has these entries: each journal reads as one, and each change is in its home's.
pub record AreHeld (services : ℕ) (images : ℕ → ℕ → List ℕ) (entries : List Recorded) : Type 0 where
  pub journals : (disk : ℕ) → 0 < disk → disk ≤ services → (bodies : List (List ℕ)) × HasBodies (images disk) bodies
  pub held : AllByRecursion (IsHeldIn services images) entries

-- Images of all disks, the disk first and then the file, hold a history: the commit log has a record for each change, and the record's home has
-- the body that it names, which is that of the change with its labels unbound.
pub record Holds (services : ℕ) (images : ℕ → ℕ → List ℕ) (history : History) : Type 0 where
  pub entries : List Recorded
  pub changes : history ≡ map committed_in entries
  pub commits : IsLog (images 0 0) (map record_bytes entries)
  pub are_held : AreHeld services images entries

-- what is held of the one that may come, if there is one
abbrev pub MayBeHeld : ℕ → (ℕ → ℕ → List ℕ) → Option Recorded → Type 0
MayBeHeld services images None = Unit {0}
MayBeHeld services images (Some entry) = IsHeldIn services images entry

-- At each moment of a commit or a settle the images hold the history of some of these entries, where the homes' disks hold all of them: those
-- that are in, the one that is undecided, and the one that comes.
abbrev pub HeldHistoryLaw : Type 0
HeldHistoryLaw =
    (services : ℕ) (images : ℕ → ℕ → List ℕ) (entries : List Recorded) (waiting coming : Option Recorded)
    → AreHeld services images entries → MayBeHeld services images waiting → MayBeHeld services images coming
    → LogsItems record_bytes (IsMidway entries waiting coming) (images 0 0)
    → (found : List Recorded) × IsMidway entries waiting coming found × Holds services images (map committed_in found)

-- what lies on the services' disks has these bodies of each, and perhaps more behind them
abbrev pub HaveBodies : ℕ → (ℕ → ℕ → List ℕ) → (ℕ → List (List ℕ)) → Type 0
HaveBodies services images bodies = (disk : ℕ) → 0 < disk → disk ≤ services → (more : List (List ℕ)) × HasBodies (images disk) (bodies disk ++ more)

-- Of the bodies of all services the one that the entry names is that of its change. More bodies behind them leave it so.
pub record IsNamed (services : ℕ) (bodies : ℕ → List (List ℕ)) (entry : Recorded) : Type 0 where
  pub first : 0 < entry.home
  pub last : entry.home ≤ services
  pub fits : entry.number < 2 ^ 64
  pub body : List ℕ
  pub at : IsAt (bodies entry.home) entry.number body
  pub spells : IsBodyOf entry.committed.change body
  pub has_spelling : HasSpelling entry.committed.change

-- Entries that are named among the bodies that the services' disks have are held, for any number of services.
abbrev pub NamedHeldLaw : Type 0
NamedHeldLaw =
    (services : ℕ) (images : ℕ → ℕ → List ℕ) (bodies : ℕ → List (List ℕ)) (entries : List Recorded)
    → HaveBodies services images bodies → AllByRecursion (IsNamed services bodies) entries → AreHeld services images entries
