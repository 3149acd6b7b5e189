-- What the table asks of each step: the rule is kept, whatever the other views are.
use Rattle.std.proofs.Common.{◌≡◌, ℕ, ◌<◌, ◌≤◌, true, List, [], ◌∷◌, refl, sym, ◌∙◌, subst}
use Rattle.std.specs.Prelude.{slice_index, length}
use Rattle.atomic_table.specs.Table.{Me, State, Allows, Splits, Joins}
use Rattle.base_core.specs.Lists.{Has}
use Rattle.seat_rule.proofs.Steps.{turns, reads, cuts, merges, begins}
use Rattle.place_board.specs.declared.view.View.{View}
use Rattle.place_board.specs.declared.view.Known.{Known}
use Rattle.place_board.specs.Words.{IsOf, count_word, IsBoard, without}
use Rattle.place_board.specs.Views.{first_list, spent, told, releases, released, seats_one, seated, joined, IsServing, IsListing, IsNoting}
use Rattle.place_board.specs.PlaceRule.{Fits, AreApart, is_live, PlaceRule}
use Rattle.place_board.specs.Steps.{Bears, Agrees, Enlists, Retires, Watches, GivesUp, Posts}
use Rattle.place_board.proofs.Members.{has_one, without_sub, without_not}
use Rattle.place_board.proofs.Numbers.{flips}
use Rattle.place_board.proofs.Steps.{agree_owes, bear_owes, enlist_owes, retire_owes, watch_owes, give_up_owes, post_owes}
use Rattle.place_board.proofs.Parting.{cut_owes, seat_owes, join_owes, first_fits, first_board}

abbrev Ruled : State ℕ View → Type 0
Ruled s = PlaceRule s.words s.views

-- a load of the word i, and a write to it, for a seat that holds no slot
read_alone : (slots id : ℕ) (me : Me ℕ View) (i : ℕ) (Told : Me ℕ View → ℕ → Me ℕ View → Type 0) → me.1 ≡ [] → Allows {S = ℕ} {V = View} Ruled slots id (me.0, []) i (λ n. n) (Told (me.0, [])) → Allows {S = ℕ} {V = View} Ruled slots id me i (λ n. n) (Told me)
read_alone slots id me i Told none allowed = subst (λ (l : List (ℕ × ℕ)). Allows {S = ℕ} {V = View} Ruled slots id (me.0, l) i (λ n. n) (Told (me.0, l))) (sym none) allowed

write_alone : (slots id : ℕ) (me : Me ℕ View) (i x : ℕ) (Told : Me ℕ View → ℕ → Me ℕ View → Type 0) → me.1 ≡ [] → Allows {S = ℕ} {V = View} Ruled slots id (me.0, []) i (λ _. x) (Told (me.0, [])) → Allows {S = ℕ} {V = View} Ruled slots id me i (λ _. x) (Told me)
write_alone slots id me i x Told none allowed = subst (λ (l : List (ℕ × ℕ)). Allows {S = ℕ} {V = View} Ruled slots id (me.0, l) i (λ _. x) (Told (me.0, l))) (sym none) allowed

pub agree_asked : (slots id : ℕ) (me : Me ℕ View) → me.1 ≡ [] → me.0.live ≡ true → Allows {S = ℕ} {V = View} Ruled slots id me 0 (λ n. n) (λ _ after. Agrees me after)
agree_asked slots id me none lives = read_alone slots id me 0 (λ m _ after. Agrees m after) none
    (reads is_live IsBoard Fits AreApart flips slots id (me.0, []) 0 (λ _ after. Agrees (me.0, []) after) refl lives (λ words b f small. agree_owes words me.0 lives b f))

pub bear_asked : (slots id : ℕ) (me : Me ℕ View) (k : Known) (n : ℕ) → me.1 ≡ [] → IsServing me.0 → k.number ≡ n → k.service ≡ me.0.service → n ≡ me.0.next → n < 32768 → IsOf me.0.service n
    → Allows {S = ℕ} {V = View} Ruled slots id me n (λ _. 1) (λ _ after. Bears k me after)
bear_asked slots id me k n none serving is_n is_s is_next small of = write_alone slots id me n 1 (λ m _ after. Bears k m after) none
    (turns is_live IsBoard Fits AreApart flips slots id (me.0, []) n (λ _. 1) (λ _ after. Bears k (me.0, []) after) refl serving.live (λ words b f lt. bear_owes words me.0 k n serving is_n is_s is_next small of b f))

pub enlist_asked : (slots id : ℕ) (me : Me ℕ View) (n : ℕ) → me.1 ≡ [] → IsListing me.0 → Has me.0.fresh n → Allows {S = ℕ} {V = View} Ruled slots id me n (λ x. x) (λ _ after. Enlists n me after)
enlist_asked slots id me n none listing fresh = read_alone slots id me n (λ m _ after. Enlists n m after) none
    (reads is_live IsBoard Fits AreApart flips slots id (me.0, []) n (λ _ after. Enlists n (me.0, []) after) refl listing.live (λ words b f lt. enlist_owes words me.0 n listing fresh b f))

pub retire_asked : (slots id : ℕ) (me : Me ℕ View) (n : ℕ) → me.1 ≡ [] → IsListing me.0 → Has me.0.listed n → Allows {S = ℕ} {V = View} Ruled slots id me n (λ _. 2) (λ _ after. Retires n me after)
retire_asked slots id me n none listing listed = write_alone slots id me n 2 (λ m _ after. Retires n m after) none
    (turns is_live IsBoard Fits AreApart flips slots id (me.0, []) n (λ _. 2) (λ _ after. Retires n (me.0, []) after) refl listing.live (λ words b f lt. retire_owes words me.0 n listing listed b f))

pub watch_asked : (slots id : ℕ) (me : Me ℕ View) (n : ℕ) → me.1 ≡ [] → IsServing me.0 → IsOf me.0.service n → n < me.0.next → n < 32768 → Allows {S = ℕ} {V = View} Ruled slots id me n (λ x. x) (λ found after. Watches n me found after)
watch_asked slots id me n none serving of below small = read_alone slots id me n (λ m found after. Watches n m found after) none
    (reads is_live IsBoard Fits AreApart flips slots id (me.0, []) n (λ found after. Watches n (me.0, []) found after) refl serving.live (λ words b f lt. watch_owes words me.0 n serving of below small b f))

pub give_up_asked : (slots id : ℕ) (me : Me ℕ View) (n : ℕ) → me.1 ≡ [] → IsServing me.0 → Has me.0.dead n → Allows {S = ℕ} {V = View} Ruled slots id me n (λ x. x) (λ _ after. GivesUp n me after)
give_up_asked slots id me n none serving dead = read_alone slots id me n (λ m _ after. GivesUp n m after) none
    (reads is_live IsBoard Fits AreApart flips slots id (me.0, []) n (λ _ after. GivesUp n (me.0, []) after) refl serving.live (λ words b f lt. give_up_owes words me.0 n serving dead b f))

pub post_asked : (slots id : ℕ) (me : Me ℕ View) (i count : ℕ) → me.1 ≡ [] → IsServing me.0 → i ≡ count_word me.0.service → me.0.posted ≤ count → Allows {S = ℕ} {V = View} Ruled slots id me i (λ _. count) (λ _ after. Posts count me after)
post_asked slots id me i count none serving is rises = write_alone slots id me i count (λ m _ after. Posts count m after) none
    (turns is_live IsBoard Fits AreApart flips slots id (me.0, []) i (λ _. count) (λ _ after. Posts count (me.0, []) after) refl serving.live (λ words b f lt. post_owes words me.0 i count serving is rises b f))

pub tell_asked : (id : ℕ) (v : View) → v.live ≡ true → Splits {S = ℕ} {V = View} Ruled id v v (told v)
tell_asked id v lives = cuts is_live IsBoard Fits AreApart flips id v v (told v) lives (λ words b f. cut_owes words v v.fresh [] lives (λ n h. h) (λ n h. absurd h) (λ n h h'. h') b f)

pub release_asked : (id : ℕ) (v : View) (number n : ℕ) → n ≡ number → v.live ≡ true → Has v.fresh number → Splits {S = ℕ} {V = View} Ruled id v (releases n v) (released n v)
release_asked id v number n is lives fresh = cuts is_live IsBoard Fits AreApart flips id v (releases n v) (released n v) lives
    (λ words b f. cut_owes words v (without n v.fresh) (n ∷ []) lives (λ m h. without_sub n v.fresh m h) (λ m h. subst (λ j. Has v.fresh j) (sym is ∙ has_one n m h) fresh) (λ m h h'. without_not n v.fresh m h (sym (has_one n m h'))) b f)

pub seat_asked : (id : ℕ) (v : View) → IsListing v → v.services < 16 → Splits {S = ℕ} {V = View} Ruled id v (seats_one v) (seated v)
seat_asked id v listing room = cuts is_live IsBoard Fits AreApart flips id v (seats_one v) (seated v) listing.live (λ words b f. seat_owes words v listing room b f)

pub join_asked : (id : ℕ) (v : View) (other : ℕ) (w : View) → v.live ≡ true → IsNoting w → Joins {S = ℕ} {V = View} Ruled id v other w (joined v w) spent
join_asked id v other w lives noting = merges is_live IsBoard Fits AreApart flips id v other w (joined v w) spent lives noting.live refl (λ words b f f' a. join_owes words v w lives noting b f f' a)

pub first_asked : (words : List ℕ) → length words ≡ 32784 → ((n : ℕ) → slice_index words n ≡ 0) → PlaceRule words (first_list ∷ [])
first_asked words long zero = begins is_live IsBoard Fits AreApart words first_list (first_board words long zero) (first_fits words zero)
