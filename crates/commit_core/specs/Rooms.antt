-- What contracts see of the commit room, and what is so of every one.
use Rattle.std.specs.Prelude.{◌≡◌, ◌≢◌, ℕ, ◌<◌, ◌≤◌, List, [], ◌∷◌, ◌++◌, length, map, Bool, true, false, Option, Some, None, option_map, Contains, slice_get}
use Rattle.history_board.specs.Boards.{BoardId}
use Rattle.history_board.specs.Bearings.{since_of, IsAbove}
use Rattle.history_board.specs.Tokens.{Kept, Seen, IsSound}
use Rattle.history_board.specs.declared.view.Bearing.{Bearing}
use Rattle.history_board.specs.declared.view.Enrolment.{Enrolment}
use Rattle.change_model.specs.declared.entry.Entry.{Entry}
use Rattle.change_model.specs.declared.history.Committed.{Committed}
use Rattle.change_model.specs.declared.history.Origin.{Origin}
use Rattle.change_model.specs.Entries.{AreTimed}
use Rattle.record_log.specs.declared.log.RecordLog.{RecordLog}
use Rattle.record_log.specs.Logs.{file_of, needs_mend}

-- a change whose record is undecided, and the entry that it gives if it comes in
pub record Waited : Type 0 where
  pub committed : Committed
  pub entry : Entry

-- The room: what its keeper knows (the board, the history, the floor, the posted count of faults, the floor and the count seen in notes, the
-- pins that are out, the sessions borne, the enrolments, the entries in doubt), the entries of the history, the origins of what was
-- committed since opening, what is undecided, how many commits there may be, and its device and log.
pub record Room (D : Type 0) : Type 0 where
  pub board : BoardId
  pub seen : List Committed
  pub floor : ℕ
  pub posted : ℕ
  pub floor_seen : ℕ
  pub count : ℕ
  pub out : List (Option ℕ)
  pub bears : List (Bearing Committed)
  pub since : List Enrolment
  pub doubt : List Committed
  pub entries : List Entry
  pub origins : List Origin
  pub undecided : Option Waited
  pub most : ℕ
  pub disk : D
  pub log : RecordLog

abbrev pub session_of : Committed → ℕ
session_of committed = committed.origin.session

abbrev pub command_of : Committed → ℕ
command_of committed = committed.origin.command

-- the change that is undecided
abbrev pub change_of : Option Waited → Option Committed
change_of waiting = option_map (λ (waited : Waited). waited.committed) waiting

abbrev pub is_some : {A : Type 0} → Option A → Bool
is_some None = false
is_some (Some x) = true

-- ---- what is so of every room

-- the origins are those of the last changes of the history: of the changes since opening
pub record AreOriginsOf (seen : List Committed) (origins : List Origin) : Type 0 where
  pub found : List Committed
  pub made : List Committed
  pub whole : seen ≡ found ++ made
  pub are : origins ≡ map (λ (committed : Committed). committed.origin) made

-- The change may still come in: it is in doubt, and no change of its session since its enrolment has its command or a greater one.
pub record MayComeIn (seen : List Committed) (since : List Enrolment) (doubt : List Committed) (committed : Committed) : Type 0 where
  pub doubted : Contains doubt committed
  pub first : (n place : ℕ) (other : Committed) → since_of since (session_of committed) ≡ Some n → n ≤ place → slice_get seen place ≡ Some other
      → session_of other ≡ session_of committed → command_of other < command_of committed

abbrev pub MayCome : List Committed → List Enrolment → List Committed → Option Committed → Type 0
MayCome seen since doubt None = Unit {0}
MayCome seen since doubt (Some committed) = MayComeIn seen since doubt committed

-- what ties the history, its entries, its origins and what is undecided
pub record IsSoundHistory (keeper : Kept Committed) (entries : List Entry) (origins : List Origin) (undecided : Option Waited) : Type 0 where
  pub accounts : IsSound session_of command_of keeper
  pub counted : length entries ≡ length keeper.seen
  pub timed : AreTimed 0 entries
  pub origins_are : AreOriginsOf keeper.seen origins
  -- before the first session was enrolled nothing was committed since opening
  pub early : keeper.since ≡ [] → origins ≡ []
  pub pending : MayCome keeper.seen keeper.since keeper.doubt (change_of undecided)

module _ {D : Type 0} where
  -- what the room's keeper knows
  abbrev pub kept_of : Room D → Kept Committed
  kept_of room = record {
    board = room.board;
    seen = room.seen;
    floor = room.floor;
    posted = room.posted;
    floor_seen = room.floor_seen;
    count = room.count;
    out = room.out;
    bears = room.bears;
    since = room.since;
    doubt = room.doubt;
  }

-- A room: its history is sound, the posted count is the device's, the log is of file 0, and it needs a mend exactly where a change is undecided.
pub record IsSoundRoom {D : Type 0} (fault_count : D → ℕ) (room : Room D) : Type 0 where
  pub history : IsSoundHistory (kept_of room) room.entries room.origins room.undecided
  pub posted : room.posted ≡ fault_count room.disk
  pub file : file_of room.log ≡ 0
  pub waits : needs_mend room.log ≡ is_some room.undecided

-- a room that was made: nothing is committed, and no session was ever enrolled
pub record IsNewRoom {D : Type 0} (most : ℕ) (room : Room D) : Type 0 where
  pub seen : room.seen ≡ []
  pub floor : room.floor ≡ 0
  pub out : room.out ≡ []
  pub bears : room.bears ≡ []
  pub since : room.since ≡ []
  pub doubt : room.doubt ≡ []
  pub entries : room.entries ≡ []
  pub origins : room.origins ≡ []
  pub undecided : room.undecided ≡ None
  pub most_is : room.most ≡ most

-- no record of this session is undecided
abbrev pub IsDecidedFor : Option Waited → ℕ → Type 0
IsDecidedFor None session = Unit {0}
IsDecidedFor (Some waited) session = session_of waited.committed ≢ session

-- the note bears the session of the origin and no other, and the command is above each that the session made or is unsure of
pub record BearsOrigin (note : Seen Committed) (origin : Origin) : Type 0 where
  pub bearing : Bearing Committed
  pub only : note.bears ≡ bearing ∷ []
  pub session : bearing.session ≡ origin.session
  pub above : IsAbove session_of command_of bearing origin.command

-- the note bears the session and no other
pub record BearsSession (note : Seen Committed) (session : ℕ) : Type 0 where
  pub bearing : Bearing Committed
  pub only : note.bears ≡ bearing ∷ []
  pub session_is : bearing.session ≡ session
