-- Private: what one step on a word tells its seat.
use Rattle.std.specs.Prelude.{◌≡◌, ℕ, true, ◌⊎◌}
use Rattle.atomic_table.specs.Table.{Me}
use Rattle.atomic_table.specs.Seated.{TableId}
use Rattle.base_core.specs.Lists.{Has}
use Rattle.place_board.specs.declared.view.View.{View}
use Rattle.place_board.specs.declared.view.Known.{Known}
use Rattle.place_board.specs.Tokens.{noted_of, serving_of, listing_of, IsSound, IsSoundSeat, IsSoundList}
use Rattle.place_board.specs.Views.{bore, enlisted, retired, saw, gave_up, posted_at}

-- what the rule says of one view alone
pub record IsSoundView (v : View) : Type 0 where
  pub noted : (z : TableId) → IsSound (noted_of z v)
  pub seat : v.is_service ≡ true → (z : TableId) → IsSoundSeat (serving_of z v)
  pub list : v.is_list ≡ true → (z : TableId) → IsSoundList (listing_of z v)

-- the seat has this view then, and learns that it is sound
abbrev pub Becomes : View → Me ℕ View → Me ℕ View → Type 0
Becomes next me after = (after ≡ (next, me.1)) × IsSoundView next

abbrev pub Bears : Known → Me ℕ View → Me ℕ View → Type 0
Bears k me after = Becomes (bore k me.0) me after

abbrev pub Agrees : Me ℕ View → Me ℕ View → Type 0
Agrees me after = Becomes me.0 me after

-- a number that is listed was never listed before
abbrev pub Enlists : ℕ → Me ℕ View → Me ℕ View → Type 0
Enlists n me after = Becomes (enlisted n me.0) me after × ¬ Has me.0.ever n

abbrev pub Retires : ℕ → Me ℕ View → Me ℕ View → Type 0
Retires n me after = Becomes (retired n me.0) me after

-- the number is found retired, and is dead from then on; or it is found live, and then the service bears it and did not have it as dead
abbrev pub Watches : ℕ → Me ℕ View → ℕ → Me ℕ View → Type 0
Watches n me found after =
    ((found ≡ 2) × Becomes (saw n me.0) me after)
    ⊎ ((found ≡ 1) × Becomes me.0 me after × Has me.0.mine n × ¬ Has me.0.dead n)

abbrev pub GivesUp : ℕ → Me ℕ View → Me ℕ View → Type 0
GivesUp n me after = Becomes (gave_up n me.0) me after

abbrev pub Posts : ℕ → Me ℕ View → Me ℕ View → Type 0
Posts count me after = Becomes (posted_at count me.0) me after
