-- Commit records: what the log's images tell of the history. A record has nine bytes: the home of the change's body, and the body's number there.
use Rattle.std.specs.Prelude.{◌≡◌, ℕ, List, [], ◌∷◌, ◌++◌, map, Option, Some, None, option_map, Result, Ok, Err}
use Rattle.base_core.specs.Numbers.{number_bytes}
use Rattle.disk_core.specs.Moments.{Told}
use Rattle.change_model.specs.declared.history.Committed.{Committed}
use Rattle.record_log.specs.Devices.{MomentsHave}
use Rattle.record_log.specs.Items.{Decides, CarriesItems, LogsItems}
use Rattle.commit_core.specs.declared.fault.CommitFault.{CommitFault}
use Rattle.commit_core.specs.declared.fault.CommitFault.TheVariants.{NoMemory, Unsure, HistoryFull, DiskFault, LogFull}
use Rattle.commit_core.specs.Rooms.{Room, change_of}

-- a change, with the service that has its body and the body's number there
pub record Recorded : Type 0 where
  pub home : ℕ
  pub number : ℕ
  pub committed : Committed

abbrev pub record_bytes : Recorded → List ℕ
record_bytes recorded = recorded.home ∷ number_bytes recorded.number

abbrev pub committed_in : Recorded → Committed
committed_in recorded = recorded.committed

-- The log of the room carries the records of these entries, and of the one that waits, if one does; and these are the changes of the history,
-- and the undecided one. It is false where the device doesn't tell.
pub record IsCommitOf {D : Type 0} (told : Option Told) (room : Room D) (entries : List Recorded) (waiting : Option Recorded) : Type 0 where
  pub carries : CarriesItems record_bytes room.log told entries waiting
  pub changes : room.seen ≡ map committed_in entries
  pub undecided : change_of room.undecided ≡ option_map committed_in waiting

-- what waited is decided, and then the log and the history are as this says
abbrev pub DecidesFirst : List Recorded → Option Recorded → (List Recorded → Type 0) → Type 0
DecidesFirst entries waiting Is = (found : List Recorded) × Decides entries waiting found × Is found

-- the records after a commit, by what it answered
abbrev pub CommitCarries : {D : Type 0} → Option Told → Room D → List Recorded → Option Recorded → Recorded → Result ℕ CommitFault → Type 0
CommitCarries told room entries waiting coming (Ok time) = DecidesFirst entries waiting (λ found. IsCommitOf told room (found ++ coming ∷ []) None)
CommitCarries told room entries waiting coming (Err (Unsure count)) = DecidesFirst entries waiting (λ found. IsCommitOf told room found (Some coming))
CommitCarries told room entries waiting coming (Err NoMemory) = IsCommitOf told room entries waiting
CommitCarries told room entries waiting coming (Err (DiskFault count)) = IsCommitOf told room entries waiting
CommitCarries told room entries waiting coming (Err HistoryFull) = DecidesFirst entries waiting (λ found. IsCommitOf told room found None)
CommitCarries told room entries waiting coming (Err LogFull) = DecidesFirst entries waiting (λ found. IsCommitOf told room found None)

-- the records after a settle
abbrev pub SettleCarries : {D T : Type 0} → Option Told → Room D → List Recorded → Option Recorded → Result T CommitFault → Type 0
SettleCarries told room entries waiting (Ok done) = DecidesFirst entries waiting (λ found. IsCommitOf told room found None)
SettleCarries told room entries waiting (Err fault) = IsCommitOf told room entries waiting

-- at each new moment each image of the commit log has records of such entries, and all other files are as they were
abbrev pub LogLeaves : (List Recorded → Type 0) → Option Told → Option Told → Type 0
LogLeaves Are = MomentsHave 0 (LogsItems record_bytes Are)
