-- The rule of the board: what ties the words to the keeper's view and to all others. It holds between any two steps of any threads.
use Rattle.std.specs.Prelude.{◌≡◌, ℕ, ◌≤◌, true, List, length, slice_index, Contains, Option, Some, []}
use mathlib.Core.Option.{some}
use mathlib.Core.List.{IsPrefix}
use lib.ListN.{get_elem?}
use Rattle.history_board.specs.declared.view.View.{View}
use Rattle.history_board.specs.Pins.{IsOut}
use Rattle.history_board.specs.declared.view.Bearing.{Bearing}
use Rattle.history_board.specs.declared.view.Enrolment.{Enrolment}
use Rattle.history_board.specs.Bearings.{since_of, Bears, borne, IsBorne, IsAccounted}

module _ {E : Type 0} where
  -- the seat has this view, which is not spent
  abbrev pub IsLive : List (View E) → ℕ → View E → Type 0
  IsLive views seat v = (get_elem? views seat ≡ some v) × (v.live ≡ true)

  -- the words are the number of commits, the floor and the posted count, as the keeper has them
  pub record HasWords (words : List ℕ) (keeper : View E) : Type 0 where
    pub three : length words ≡ 3
    pub commits : slice_index words 0 ≡ length keeper.seen
    pub floor_word : slice_index words 1 ≡ keeper.floor
    pub posted_word : slice_index words 2 ≡ keeper.posted
    -- the floor is at most the length
    pub floor_within : keeper.floor ≤ length keeper.seen
    -- no call raises the floor yet
    pub floor_rests : keeper.floor ≡ 0

  -- what a view has seen, and what it put together, are beginnings of the keeper's history; no floor that it saw is above the floor, and each count that it saw was posted
  pub record Follows (keeper v : View E) : Type 0 where
    pub seen : IsPrefix v.seen keeper.seen
    pub olds : (xs : List E) → Contains v.olds xs → IsPrefix xs keeper.seen
    pub floor : v.floor_seen ≤ keeper.floor
    pub count : v.count_seen ≤ keeper.posted

  -- there is one keeper, and all live views follow it
  pub record AllFollow (At : ℕ → View E → Type 0) (seat : ℕ) (keeper : View E) : Type 0 where
    pub one : (by : ℕ) (v : View E) → At by v → v.is_keeper ≡ true → by ≡ seat
    pub each : (by : ℕ) (v : View E) → At by v → Follows keeper v

  -- a live pin is out with its number and its time, its history has at least as many entries, and no floor that it saw is above its time
  pub record IsPinOf (out : List (Option ℕ)) (v : View E) : Type 0 where
    pub is_out : IsOut out v.number v.time
    pub seen : v.time ≤ length v.seen
    pub floor : v.floor_seen ≤ v.time

  -- the pins: each time that is out is at least the floor and at most the length, and no two live pins share a number
  pub record HoldsPins (At : ℕ → View E → Type 0) (keeper : View E) : Type 0 where
    pub within : (number time : ℕ) → IsOut keeper.out number time → (keeper.floor ≤ time) × (time ≤ length keeper.seen)
    pub each : (by : ℕ) (v : View E) → At by v → v.is_pin ≡ true → IsPinOf keeper.out v
    pub apart : (by other : ℕ) (v w : View E) → At by v → v.is_pin ≡ true → At other w → w.is_pin ≡ true → v.number ≡ w.number → by ≡ other

  -- some live view bears the session
  abbrev pub IsBorneBySome : (ℕ → View E → Type 0) → ℕ → Type 0
  IsBorneBySome At s = (by : ℕ) × (v : View E) × At by v × Bears v.bears s

module _ {E : Type 0} (session_of command_of : E → ℕ) where
  -- the sessions that live views bear: each is as the keeper's history has it, no two views bear one, none bears one twice, and a pin bears none
  pub record AllBorne (At : ℕ → View E → Type 0) (seen : List E) (since : List Enrolment) (doubt : List E) : Type 0 where
    pub each : (by : ℕ) (v : View E) (b : Bearing E) → At by v → Contains v.bears b → IsBorne session_of command_of seen since doubt b
    pub apart : (by other : ℕ) (v w : View E) (b c : Bearing E) → At by v → Contains v.bears b → At other w → Contains w.bears c → b.session ≡ c.session → by ≡ other
    pub once : (by : ℕ) (v : View E) (s : ℕ) → At by v → length (borne s v.bears) ≤ 1
    pub pins : (by : ℕ) (v : View E) → At by v → v.is_pin ≡ true → v.bears ≡ []

  -- the sessions: the entries stand by their sessions, and each session that was enrolled is borne by exactly one live view
  pub record HoldsSessions (At : ℕ → View E → Type 0) (keeper : View E) : Type 0 where
    pub accounted : IsAccounted session_of command_of keeper.seen keeper.since keeper.doubt
    pub borne_each : AllBorne At keeper.seen keeper.since keeper.doubt
    pub borne_by : (s n : ℕ) → since_of keeper.since s ≡ Some n → IsBorneBySome At s

  -- the rule, where this seat has this view, which is the keeper's
  pub record IsKept (words : List ℕ) (At : ℕ → View E → Type 0) (seat : ℕ) (keeper : View E) : Type 0 where
    pub here : At seat keeper
    pub keeps : keeper.is_keeper ≡ true
    pub has_words : HasWords words keeper
    pub follow : AllFollow At seat keeper
    pub pins : HoldsPins At keeper
    pub sessions : HoldsSessions At keeper

  -- the rule: some seat has the keeper's view
  pub record HistoryRule (words : List ℕ) (views : List (View E)) : Type 0 where
    pub seat : ℕ
    pub keeper : View E
    pub kept : IsKept words (IsLive views) seat keeper
