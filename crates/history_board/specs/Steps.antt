-- What one step on a word tells its seat.
use Rattle.std.specs.Prelude.{◌≡◌, ℕ, true, List, [], ◌∷◌, ◌++◌, length, Contains, ◌≤◌}
use mathlib.Core.List.{IsPrefix}
use Rattle.atomic_table.specs.Table.{Me}
use Rattle.history_board.specs.Boards.{BoardId}
use Rattle.history_board.specs.declared.view.View.{View}
use Rattle.history_board.specs.Tokens.{kept_of, IsSound}
use Rattle.history_board.specs.Bearings.{bears_after}

module _ {E : Type 0} (session_of command_of : E → ℕ) where
  -- what the rule says of the keeper alone
  abbrev pub Sound : View E → Type 0
  Sound v = (z : BoardId) → IsSound session_of command_of (kept_of z v)

  -- what a view is found to be at a look: it and all that it put together are beginnings of one history, of this length
  pub record IsFound (length_found : ℕ) (v : View E) : Type 0 where
    pub history : List E
    pub length_is : length_found ≡ length history
    pub seen : IsPrefix v.seen history
    pub olds : (xs : List E) → Contains v.olds xs → IsPrefix xs history
    pub keeper : v.is_keeper ≡ true → (history ≡ v.seen) × Sound v
    pub pin : v.is_pin ≡ true → (v.time ≤ length v.seen) × (v.floor_seen ≤ v.time)

  -- a look: what was put together goes
  abbrev pub Looks : Me ℕ (View E) → ℕ → Me ℕ (View E) → Type 0
  Looks me found after = (after ≡ (record me.0 { olds = [] }, me.1)) × IsFound found me.0

  -- the keeper after it committed this entry, which its session made, unless it was in doubt
  abbrev pub committed : E → View E → View E
  committed e v = record v { seen = v.seen ++ e ∷ []; bears = bears_after session_of command_of v.doubt (length v.seen) e v.bears }

  -- a commit of the one entry that it is told
  abbrev pub Commits : List E → Me ℕ (View E) → ℕ → Me ℕ (View E) → Type 0
  Commits entries me found after = (e : E) → entries ≡ e ∷ [] → (found ≡ length me.0.seen) × (after ≡ (committed e me.0, me.1)) × Sound (committed e me.0)

  -- a post: the count takes the place of what was posted
  abbrev pub Posts : ℕ → Me ℕ (View E) → ℕ → Me ℕ (View E) → Type 0
  Posts count me found after = (found ≡ me.0.posted) × (after ≡ (record me.0 { posted = count }, me.1)) × Sound (record me.0 { posted = count })
