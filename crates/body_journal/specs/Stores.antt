-- What a device keeps of the bodies of a service. Where the device doesn't tell its files, these words are false.
use Rattle.std.specs.Prelude.{◌≡◌, ℕ, ◌*◌, ◌-◌, ◌^◌, ◌<◌, ◌≤◌, List, [], ◌++◌, length, Option, Some, None, slice_get, IfSome}
use Rattle.std.specs.List.{AllByRecursion}
use Rattle.disk_core.specs.Moments.{Told, MomentsGoOn, BothTell}
use Rattle.record_log.specs.Items.{CarriesItems}
use Rattle.record_log.specs.Logs.{file_of}
use Rattle.record_log.specs.declared.log.RecordLog.{RecordLog}
use Rattle.body_journal.specs.declared.held.Held.{Held}
use Rattle.body_journal.specs.declared.held.Stage.{Stage}
use Rattle.body_journal.specs.declared.held.Stage.TheVariants.{Waiting, InGroup, Stored}
use Rattle.body_journal.specs.declared.journal.BodyJournal.{BodyJournal}
use Rattle.body_journal.specs.Groups.{IsGroup, group_bytes}
use Rattle.body_journal.specs.Held.{bytes_of}
use Rattle.body_journal.specs.Journals.{bodies_in, bodies_upto, KeepsJournals, AreFreshBehind, LeavesBodies}

-- a member of the group that is undecided stands at its place there, and a stored body behind so many others
abbrev pub StandsRight : List (List ℕ) → Option (List (List ℕ)) → Stage → List ℕ → Type 0
StandsRight bodies waiting Waiting body = Unit {0}
StandsRight bodies waiting (InGroup place) body = IfSome waiting (λ group. slice_get group place ≡ Some body)
StandsRight bodies waiting (Stored before) body = slice_get bodies before ≡ Some body

abbrev pub IsHeldRight : List (List ℕ) → Option (List (List ℕ)) → Held → Type 0
IsHeldRight bodies waiting held = StandsRight bodies waiting held.stage (bytes_of held)

-- The journals before the last have their groups. The last has its own, with one that may be undecided. The files behind it are fresh. The bodies
-- are those of all groups that are in, in order.
pub record IsStoring (told : Told) (log : RecordLog) (last stored grouped : ℕ) (helds : List Held) (bodies : List (List ℕ)) : Type 0 where
  pub older : ℕ → List (List (List ℕ))
  pub groups : List (List (List ℕ))
  pub waiting : Option (List (List ℕ))
  pub file : file_of log ≡ 2 * last
  pub place : 0 < last
  pub few : last ≤ 2 ^ 62
  pub kept : KeepsJournals told.now older last
  pub carried : CarriesItems group_bytes log (Some told) groups waiting
  pub fresh : AreFreshBehind told.now last
  pub are : AllByRecursion IsGroup groups
  pub coming : IfSome waiting IsGroup
  pub bodies_are : bodies ≡ bodies_upto older (last - 1) ++ bodies_in groups
  pub count : stored ≡ length bodies
  pub coming_count : IfSome waiting (λ group. grouped ≡ length group)
  pub held : AllByRecursion (IsHeldRight bodies waiting) helds

-- the same of a device that may tell its files
abbrev pub StoresIn : Option Told → RecordLog → ℕ → ℕ → ℕ → List Held → List (List ℕ) → Type 0
StoresIn None log last stored grouped helds bodies = ⊥
StoresIn (Some told) log last stored grouped helds bodies = IsStoring told log last stored grouped helds bodies

-- the device stores these bodies of the service
abbrev pub Stores : Option Told → BodyJournal → List (List ℕ) → Type 0
Stores told room bodies = StoresIn told room.log room.journals room.tally.stored room.tally.grouped room.held.items bodies

-- it stores them when they are opened: so many, and this is the log of the last of so many journals
abbrev pub IsOpened : Option Told → RecordLog → ℕ → ℕ → List (List ℕ) → Type 0
IsOpened told log last count bodies = StoresIn told log last count 0 [] bodies

-- At each new moment the files hold these bodies, and perhaps more behind them.
abbrev pub MomentsKeep : List (List ℕ) → Option Told → Option Told → Type 0
MomentsKeep bodies = BothTell (MomentsGoOn (LeavesBodies bodies))
