-- Private: what the put of a change does, and what is made before it.
use Rattle.std.specs.Prelude.{◌≡◌, ℕ, List, [], ◌∷◌, ◌++◌, Bool, true, false, Option, Some, None, Result, Ok, Err, ◌⊎◌, IfSome}
use Rattle.disk_core.specs.Moments.{Told}
use Rattle.history_board.specs.Tokens.{Seen}
use Rattle.change_model.specs.declared.entry.Entry.{Entry}
use Rattle.change_model.specs.declared.history.Committed.{Committed}
use Rattle.change_model.specs.History.{History}
use Rattle.change_model.specs.Entries.{IsEntry, IsLastEntry}
use Rattle.change_model.specs.Laws.{IsWritable}
use Rattle.record_log.specs.Items.{with_one}
use Rattle.record_log.specs.Logs.{IsFull}
use Rattle.commit_core.specs.declared.fault.CommitFault.{CommitFault}
use Rattle.commit_core.specs.declared.fault.CommitFault.TheVariants.{NoMemory, Unsure, HistoryFull, DiskFault, LogFull}
use Rattle.commit_core.specs.Rooms.{Room, Waited, change_of}
use Rattle.commit_core.specs.Ledgers.{Ledgered}
use Rattle.commit_core.specs.Records.{Recorded, IsCommitOf}
use Rattle.commit_core.specs.Steps.{Commits, Doubts, RECORD_SIZE}

module _ {D : Type 0} (fault_count : D → ℕ) where
  abbrev pub PutStep : Room D → Room D → Seen Committed → Seen Committed → Committed → Result ℕ CommitFault → Type 0
  PutStep old new note note_after committed (Ok time) = Commits fault_count old new note note_after committed time
  PutStep old new note note_after committed (Err (Unsure count)) = Doubts fault_count old new note note_after committed count
  PutStep old new note note_after committed (Err LogFull) = (new ≡ old) × IsFull new.log RECORD_SIZE × (note_after ≡ note)
  PutStep old new note note_after committed (Err NoMemory) = ⊥
  PutStep old new note note_after committed (Err (DiskFault count)) = ⊥
  PutStep old new note note_after committed (Err HistoryFull) = ⊥

-- the records after the put
abbrev pub PutCarries : {D : Type 0} → Option Told → Room D → List Recorded → Recorded → Result ℕ CommitFault → Type 0
PutCarries told room entries coming (Ok time) = IsCommitOf told room (entries ++ coming ∷ []) None
PutCarries told room entries coming (Err (Unsure count)) = IsCommitOf told room entries (Some coming)
PutCarries told room entries coming (Err LogFull) = IsCommitOf told room entries None
PutCarries told room entries coming (Err NoMemory) = ⊥
PutCarries told room entries coming (Err (DiskFault count)) = ⊥
PutCarries told room entries coming (Err HistoryFull) = ⊥

-- where a change is undecided, there is an entry for this time too, behind it
abbrev pub IsBehind : Option Waited → ℕ → Option Entry → Type 0
IsBehind None time None = Unit {0}
IsBehind None time (Some entry) = ⊥
IsBehind (Some waited) time None = ⊥
IsBehind (Some waited) time (Some entry) = IsEntry time entry

-- after a put that was refused the entries are as they were, and what is undecided is this change or nothing
pub record PutWaits (old new : Ledgered) (committed : Committed) (entry : Entry) : Type 0 where
  pub entries : new.entries ≡ old.entries
  pub seen : new.keeper.seen ≡ old.keeper.seen
  pub waits : (new.waiting ≡ None) ⊎ (new.waiting ≡ Some (record { committed = committed; entry = entry }))

-- the entry for the place to which a change came
abbrev pub chosen : Bool → Entry → Option Entry → Entry
chosen true alone (Some behind) = behind
chosen true alone None = alone
chosen false alone behind = alone

-- behind the history the change has the rows of the entry, and the history may be written with it
pub record IsNextEntry (history : History) (committed : Committed) (entry : Entry) : Type 0 where
  pub last : IsLastEntry (history ++ committed ∷ []) entry
  pub writable : IsWritable (history ++ committed ∷ [])

-- the entries of a change that is planned have its rows: behind the history, and behind the undecided change where there is one
pub record HavePlannedRows (seen : History) (waiting : Option Waited) (committed : Committed) (alone : Entry) (behind : Option Entry) : Type 0 where
  pub alone_is : IsNextEntry seen committed alone
  pub behind_is : IfSome behind (IsNextEntry (with_one seen (change_of waiting)) committed)
