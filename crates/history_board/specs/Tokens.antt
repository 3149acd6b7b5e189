-- What contracts see of the keeper, of a note and of a pin.
use Rattle.std.specs.Prelude.{◌≡◌, ℕ, ◌≤◌, Option, List, [], length, ◌<◌, ◌⊎◌, None, Some, Contains, slice_get}
use Rattle.history_board.specs.Boards.{BoardId}
use Rattle.history_board.specs.declared.view.View.{View}
use Rattle.history_board.specs.declared.view.Bearing.{Bearing}
use Rattle.history_board.specs.declared.view.Enrolment.{Enrolment}
use Rattle.history_board.specs.Pins.{IsOut}
use Rattle.history_board.specs.Bearings.{since_of, Bears, borne, IsAbove, IsBorne, IsAccounted}

-- a note: its board, the beginning of the history that it has seen, the floor and the count of faults that it has seen, and the sessions that it bears
pub record Seen (E : Type 0) : Type 0 where
  pub board : BoardId
  pub seen : List E
  pub floor : ℕ
  pub count : ℕ
  pub bears : List (Bearing E)

-- the keeper: its board, the whole history, the floor and the posted count of faults, the floor and the count that it has seen in notes, the pins that are out, each with its time at its number, the sessions that it bears, the enrolments, the newest first, and the entries in doubt
pub record Kept (E : Type 0) : Type 0 where
  pub board : BoardId
  pub seen : List E
  pub floor : ℕ
  pub posted : ℕ
  pub floor_seen : ℕ
  pub count : ℕ
  pub out : List (Option ℕ)
  pub bears : List (Bearing E)
  pub since : List Enrolment
  pub doubt : List E

-- a pin: what a note has, but that it bears no session, and its number and its time
pub record Pinned (E : Type 0) : Type 0 where
  pub board : BoardId
  pub seen : List E
  pub floor : ℕ
  pub count : ℕ
  pub number : ℕ
  pub time : ℕ

module _ {E : Type 0} where
  abbrev pub seen_of : BoardId → View E → Seen E
  seen_of z v = record { board = z; seen = v.seen; floor = v.floor_seen; count = v.count_seen; bears = v.bears }

  abbrev pub pinned_of : BoardId → View E → Pinned E
  pinned_of z v = record { board = z; seen = v.seen; floor = v.floor_seen; count = v.count_seen; number = v.number; time = v.time }

  abbrev pub kept_of : BoardId → View E → Kept E
  kept_of z v = record { board = z; seen = v.seen; floor = v.floor; posted = v.posted; floor_seen = v.floor_seen; count = v.count_seen; out = v.out; bears = v.bears; since = v.since; doubt = v.doubt }

module _ {E : Type 0} where
  -- the session may be enrolled: it was not yet, or it has left, so that the keeper bears it
  abbrev pub MayEnrol : Kept E → ℕ → Type 0
  MayEnrol k s = (since_of k.since s ≡ None) ⊎ Bears k.bears s

module _ {E : Type 0} (session_of command_of : E → ℕ) where
  -- what is so of the keeper of every board
  pub record IsSound (k : Kept E) : Type 0 where
    -- the floor is no higher than the history is long
    pub floor_within : k.floor ≤ length k.seen
    -- no floor that it saw is above the floor
    pub floor_seen_within : k.floor_seen ≤ k.floor
    -- each count that it saw was posted
    pub count_posted : k.count ≤ k.posted
    -- each pin that is out has a time from the floor to the length
    pub pins_within : (number time : ℕ) → IsOut k.out number time → (k.floor ≤ time) × (time ≤ length k.seen)
    -- the entries of the history stand by their sessions
    pub accounted : IsAccounted session_of command_of k.seen k.since k.doubt
    -- each session that it bears was enrolled and has what it made since, and it bears none twice
    pub bears : (b : Bearing E) → Contains k.bears b → IsBorne session_of command_of k.seen k.since k.doubt b
    pub once : (s : ℕ) → length (borne s k.bears) ≤ 1

  -- the entry may come next: it is of no session, and none was ever enrolled; or the keeper bears its session, and its command is new there; or it is in doubt, and did not come in
  abbrev pub MayCommit : Kept E → E → Type 0
  MayCommit k e =
      ((session_of e ≡ 0) × (k.since ≡ []))
      ⊎ (((b : Bearing E) × Contains k.bears b × (b.session ≡ session_of e) × IsAbove session_of command_of b (command_of e))
      ⊎ (Contains k.doubt e × ((n place : ℕ) (d : E) → since_of k.since (session_of e) ≡ Some n → n ≤ place → slice_get k.seen place ≡ Some d → session_of d ≡ session_of e → command_of d < command_of e)))

  -- the entry may be in doubt: it is of this session, and its command is new there
  pub record MayDoubt (k : Kept E) (s : ℕ) (e : E) : Type 0 where
    pub session : session_of e ≡ s
    pub command : (b : Bearing E) → Contains k.bears b → b.session ≡ s → IsAbove session_of command_of b (command_of e)

-- a new board: nothing has happened
pub record IsNew {E : Type 0} (k : Kept E) : Type 0 where
  pub seen : k.seen ≡ []
  pub floor : k.floor ≡ 0
  pub posted : k.posted ≡ 0
  pub floor_seen : k.floor_seen ≡ 0
  pub count : k.count ≡ 0
  pub out : k.out ≡ []
  pub bears : k.bears ≡ []
  pub since : k.since ≡ []
  pub doubt : k.doubt ≡ []
