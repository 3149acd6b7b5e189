-- Pins that were made together.
use Rattle.std.specs.Prelude.{◌≡◌, ◌↔◌, ℕ, List, [], ◌∷◌, length, Option}
use Rattle.history_board.specs.Boards.{BoardId}
use Rattle.history_board.specs.Pins.{IsOut, IsFree, put_out}
use Rattle.history_board.specs.Tokens.{Kept, Pinned}
use Rattle.change_model.specs.declared.history.Committed.{Committed}
use Rattle.commit_core.specs.Rooms.{Room, kept_of}

-- the pin is at the whole history of the keeper
pub record IsPinOf (keeper : Kept Committed) (pin : Pinned Committed) : Type 0 where
  pub board : pin.board ≡ keeper.board
  pub seen : pin.seen ≡ keeper.seen
  pub floor : pin.floor ≡ keeper.floor_seen
  pub count : pin.count ≡ keeper.posted
  pub time : pin.time ≡ length keeper.seen

abbrev pub IsPinAt : {D : Type 0} → Room D → Pinned Committed → Type 0
IsPinAt room pin = IsPinOf (kept_of room) pin

abbrev pub IsOfBoard : BoardId → Pinned Committed → Type 0
IsOfBoard board pin = pin.board ≡ board

-- the same pins are out
abbrev pub IsSameOut : List (Option ℕ) → List (Option ℕ) → Type 0
IsSameOut old new = (number time : ℕ) → IsOut new number time ↔ IsOut old number time

-- the pins were put out one after the other, each at a number that no other had
abbrev pub ArePutOut : List (Option ℕ) → List (Pinned Committed) → List (Option ℕ) → Type 0
ArePutOut old [] new = new ≡ old
ArePutOut old (pin ∷ pins) new = IsFree old pin.number × ArePutOut (put_out old pin.number pin.time) pins new
