-- What a commit and a settle do to the room and to the note that is lent to them.
use Rattle.std.specs.Prelude.{◌≡◌, ◌≢◌, ℕ, ◌+◌, ◌<◌, ◌≤◌, [], ◌∷◌, ◌++◌, length, Bool, false, if◌then◌else◌, Option, Some, None, option_map, Result, Ok, Err, slice_set, min}
use Rattle.base_core.specs.Faults.{HasRisen}
use Rattle.history_board.specs.Bearings.{placed}
use Rattle.history_board.specs.Tokens.{Seen}
use Rattle.history_board.specs.declared.view.Bearing.{Bearing}
use Rattle.change_model.specs.declared.entry.Entry.{Entry}
use Rattle.change_model.specs.declared.history.Change.{Change}
use Rattle.change_model.specs.declared.history.Committed.{Committed}
use Rattle.change_model.specs.declared.history.Origin.{Origin}
use Rattle.record_log.specs.Items.{with_one}
use Rattle.record_log.specs.Logs.{needs_mend, count_of, limit_of, sizes_of, undecided_of, IsFull, IsSameLog}
use Rattle.commit_core.specs.declared.fault.CommitFault.{CommitFault}
use Rattle.commit_core.specs.declared.fault.CommitFault.TheVariants.{NoMemory, Unsure, HistoryFull, DiskFault, LogFull}
use Rattle.commit_core.specs.Rooms.{Room, Waited, change_of}

-- how many bytes a commit record has
abbrev pub RECORD_SIZE : ℕ
RECORD_SIZE = 9

abbrev pub entry_of_waited : Option Waited → Option Entry
entry_of_waited waiting = option_map (λ (waited : Waited). waited.entry) waiting

abbrev pub origin_of_waited : Option Waited → Option Origin
origin_of_waited waiting = option_map (λ (waited : Waited). waited.committed.origin) waiting

module _ {D : Type 0} where
  -- the pin of this number is back
  abbrev pub pin_back : ℕ → Room D → Room D
  pin_back number room = record room { out = slice_set room.out number None }

  -- what is undecided came in, or was left out
  abbrev pub decided : Bool → Room D → Room D
  decided kept room = record room {
    seen = (if kept then with_one room.seen (change_of room.undecided) else room.seen);
    entries = (if kept then with_one room.entries (entry_of_waited room.undecided) else room.entries);
    origins = (if kept then with_one room.origins (origin_of_waited room.undecided) else room.origins);
    undecided = None;
  }

  -- what no commit changes
  pub record Stays (old new : Room D) : Type 0 where
    pub board : new.board ≡ old.board
    pub floor : new.floor ≡ old.floor
    pub out : new.out ≡ old.out
    pub bears : new.bears ≡ old.bears
    pub since : new.since ≡ old.since
    pub most : new.most ≡ old.most

  -- the same room, but for its device, its log and the posted count
  abbrev pub over : Room D → Room D → Room D
  over new room = record room { disk = new.disk; log = new.log; posted = new.posted }

module _ {D : Type 0} (fault_count : D → ℕ) where
  -- What was undecided is decided: it came in exactly where the log has kept its record. Where nothing was undecided, nothing was tried.
  pub record Mends (old new : Room D) : Type 0 where
    pub kept : Bool
    pub is : new ≡ over new (decided kept old)
    pub counted : count_of new.log ≡ (if kept then count_of old.log + 1 else count_of old.log)
    pub limit : limit_of new.log ≡ limit_of old.log
    pub sizes : sizes_of new.log ≡ (if kept then with_one (sizes_of old.log) (undecided_of old.log) else sizes_of old.log)
    pub settled : needs_mend new.log ≡ false
    pub later : fault_count old.disk ≤ fault_count new.disk
    pub untried : old.undecided ≡ None → (kept ≡ false) × (new.disk ≡ old.disk) × IsSameLog old.log new.log

  -- A mend was tried and failed: the count of faults rose in it, and what was undecided is so still.
  pub record FailsToMend (old new : Room D) (count : ℕ) : Type 0 where
    pub tried : old.undecided ≢ None
    pub is : new ≡ over new old
    pub same_log : IsSameLog old.log new.log
    pub risen : HasRisen (fault_count old.disk) count
    pub shown : count ≡ fault_count new.disk

  -- first what was undecided is decided, and then this is done
  abbrev pub Then : Room D → (Room D → Type 0) → Type 0
  Then old Does = (between : Room D) × Mends old between × Does between

  -- the record fits: there is room for a commit more, and the log isn't full
  pub record HasPlace (room : Room D) : Type 0 where
    pub below : length room.seen < room.most
    pub fits : ¬ IsFull room.log RECORD_SIZE

  -- The history has grown by this change, at this time, and so have its entries and origins. The note has seen it, and has it as its session's own.
  pub record Commits (old new : Room D) (note note_after : Seen Committed) (committed : Committed) (time : ℕ) : Type 0 where
    pub place : HasPlace old
    pub entry : Entry
    pub is : new ≡ record (over new old) {
      seen = old.seen ++ committed ∷ [];
      entries = old.entries ++ entry ∷ [];
      origins = old.origins ++ committed.origin ∷ [];
      floor_seen = new.floor_seen;
      count = new.count;
    }
    pub time_is : time ≡ length new.seen
    pub counted : count_of new.log ≡ count_of old.log + 1
    pub limit : limit_of new.log ≡ limit_of old.log
    pub sizes : sizes_of new.log ≡ sizes_of old.log ++ RECORD_SIZE ∷ []
    pub later : fault_count old.disk ≤ fault_count new.disk
    pub whole : note_after.seen ≡ new.seen
    pub board : note_after.board ≡ note.board
    pub own : (bearing : Bearing Committed) → note.bears ≡ bearing ∷ []
        → note_after.bears ≡ record bearing { mine = bearing.mine ++ placed (length old.seen) committed ∷ [] } ∷ []

  -- The put of its record failed: the count of faults rose in it, the change is undecided, and its session is unsure of it.
  pub record Doubts (old new : Room D) (note note_after : Seen Committed) (committed : Committed) (count : ℕ) : Type 0 where
    pub place : HasPlace old
    pub entry : Entry
    pub is : new ≡ record (over new old) {
      undecided = Some (record { committed = committed; entry = entry });
      doubt = old.doubt ++ committed ∷ [];
      floor_seen = new.floor_seen;
      count = new.count;
    }
    pub risen : HasRisen (fault_count old.disk) count
    pub shown : count ≡ fault_count new.disk
    pub counted : count_of new.log ≡ count_of old.log
    pub limit : limit_of new.log ≡ limit_of old.log
    pub sizes : sizes_of new.log ≡ sizes_of old.log
    pub waits : undecided_of new.log ≡ Some RECORD_SIZE
    pub whole : note_after.seen ≡ new.seen
    pub board : note_after.board ≡ note.board
    pub own : (bearing : Bearing Committed) → note.bears ≡ bearing ∷ [] → note_after.bears ≡ record bearing { unsure = bearing.unsure ++ committed ∷ [] } ∷ []

  -- what a commit did, by what it answered; the old room is that to which the pin came back
  abbrev pub CommitStep : Room D → Room D → Seen Committed → Seen Committed → Committed → Result ℕ CommitFault → Type 0
  CommitStep old new note note_after committed (Ok time) = Then old (λ between. Commits between new note note_after committed time)
  CommitStep old new note note_after committed (Err (Unsure count)) = Then old (λ between. Doubts between new note note_after committed count)
  CommitStep old new note note_after committed (Err NoMemory) = (new ≡ old) × (note_after ≡ note)
  CommitStep old new note note_after committed (Err (DiskFault count)) = FailsToMend old new count × (note_after ≡ note)
  CommitStep old new note note_after committed (Err HistoryFull) = Mends old new × (new.most ≤ length new.seen) × (note_after ≡ note)
  CommitStep old new note note_after committed (Err LogFull) = Mends old new × (length new.seen < new.most) × IsFull new.log RECORD_SIZE × (note_after ≡ note)

  -- what a settle did, by what it answered
  abbrev pub SettleStep : {T : Type 0} → Room D → Room D → Result T CommitFault → Type 0
  SettleStep old new (Ok done) = Mends old new
  SettleStep old new (Err (DiskFault count)) = FailsToMend old new count
  SettleStep old new (Err (Unsure count)) = ⊥
  SettleStep old new (Err NoMemory) = ⊥
  SettleStep old new (Err HistoryFull) = ⊥
  SettleStep old new (Err LogFull) = ⊥

-- A change that opening found in the log came in, with the session 0 and its time as its command.
pub record Reloads {D : Type 0} (old new : Room D) (change : Change) (time : ℕ) : Type 0 where
  pub entry : Entry
  pub is : new ≡ record old {
    seen = old.seen ++ record { change = change; origin = record { session = 0; command = min time 4294967295 } } ∷ [];
    entries = old.entries ++ entry ∷ [];
  }
  pub time_is : time ≡ length new.seen
