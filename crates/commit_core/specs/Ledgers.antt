-- Private: the ledger, which has the history of the room without its device and its log; and the room as its parts make it.
use Rattle.std.specs.Prelude.{◌≡◌, ℕ, suc, ◌+◌, ◌<◌, ◌^◌, List, [], length, Bool, if◌then◌else◌, Option, Some, None}
use Rattle.history_board.specs.Tokens.{Kept, IsNew}
use Rattle.change_model.specs.declared.entry.Entry.{Entry}
use Rattle.change_model.specs.declared.history.Committed.{Committed}
use Rattle.change_model.specs.declared.history.Origin.{Origin}
use Rattle.change_model.specs.Entries.{IsEntry}
use Rattle.record_log.specs.declared.log.RecordLog.{RecordLog}
use Rattle.record_log.specs.Items.{with_one}
use Rattle.record_log.specs.Logs.{file_of, needs_mend}
use Rattle.commit_core.specs.Books.{Booked}
use Rattle.commit_core.specs.Rooms.{Room, Waited, IsSoundHistory, change_of, is_some}
use Rattle.commit_core.specs.Steps.{entry_of_waited, origin_of_waited}

-- what the keeper knows, and the book
pub record Ledgered : Type 0 where
  pub keeper : Kept Committed
  pub entries : List Entry
  pub origins : List Origin
  pub waiting : Option Waited
  pub room : ℕ

abbrev pub ledgered : Kept Committed → Booked → Ledgered
ledgered keeper book = record { keeper = keeper; entries = book.entries; origins = book.origins; waiting = book.waiting; room = book.room }

-- what is undecided can come in without memory, and its entry is of the next time
abbrev pub IsReserved : Option Waited → ℕ → ℕ → Type 0
IsReserved None room time = Unit {0}
IsReserved (Some waited) room time = (0 < room) × (time + 1 < 2 ^ 64) × IsEntry (suc time) waited.entry

pub record IsLedger (ledger : Ledgered) : Type 0 where
  pub history : IsSoundHistory ledger.keeper ledger.entries ledger.origins ledger.waiting
  pub reserved : IsReserved ledger.waiting ledger.room (length ledger.keeper.seen)

-- the ledger of a new board
pub record IsNewLedger (ledger : Ledgered) : Type 0 where
  pub keeper : IsNew ledger.keeper
  pub entries : ledger.entries ≡ []
  pub origins : ledger.origins ≡ []
  pub waiting : ledger.waiting ≡ None

-- what waits came in, or was left out
abbrev pub ledger_decided : Bool → Ledgered → Ledgered
ledger_decided kept ledger = record ledger {
  keeper = record ledger.keeper { seen = (if kept then with_one ledger.keeper.seen (change_of ledger.waiting) else ledger.keeper.seen) };
  entries = (if kept then with_one ledger.entries (entry_of_waited ledger.waiting) else ledger.entries);
  origins = (if kept then with_one ledger.origins (origin_of_waited ledger.waiting) else ledger.origins);
  waiting = None;
}

-- the room that this ledger, device and log make
abbrev pub room_of : {D : Type 0} → Ledgered → D → RecordLog → ℕ → Room D
room_of ledger disk log most = record {
  board = ledger.keeper.board;
  seen = ledger.keeper.seen;
  floor = ledger.keeper.floor;
  posted = ledger.keeper.posted;
  floor_seen = ledger.keeper.floor_seen;
  count = ledger.keeper.count;
  out = ledger.keeper.out;
  bears = ledger.keeper.bears;
  since = ledger.keeper.since;
  doubt = ledger.keeper.doubt;
  entries = ledger.entries;
  origins = ledger.origins;
  undecided = ledger.waiting;
  most = most;
  disk = disk;
  log = log;
}

-- the device and the log belong to the ledger
pub record AreTied {D : Type 0} (fault_count : D → ℕ) (ledger : Ledgered) (disk : D) (log : RecordLog) : Type 0 where
  pub posted : ledger.keeper.posted ≡ fault_count disk
  pub file : file_of log ≡ 0
  pub waits : needs_mend log ≡ is_some ledger.waiting
