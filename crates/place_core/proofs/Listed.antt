-- A list once born shards are listed one after the other.
use Rattle.std.proofs.Common.{◌≡◌, ◌⊎◌, ℕ, List, [], ◌∷◌, map, refl, sym, ap, subst, inl, inr, ⊎_elim}
use Rattle.base_core.specs.Lists.{Has}
use Rattle.place_board.specs.declared.view.Known.{Known}
use Rattle.place_board.specs.Tokens.{Listing, Reaches, list_listed, list_met}
use Rattle.place_board.proofs.Members.{has_left, has_right}
use Rattle.place_board.proofs.Chains.{reaches_self, reaches_on}
use Rattle.place_core.specs.declared.shards.Line.{Line}
use Rattle.place_core.specs.declared.shards.Born.{Born}
use Rattle.place_core.specs.Shown.{known_as, IsShownBy}
use Rattle.place_core.specs.Places.{line_of, all_listed, LinesStandInOrder}
use Rattle.place_core.specs.Lines.{MayBeListed, ShareLeft}

pub to_map : {A B : Type 0} (f : A → B) (xs : List A) (x : A) → Has xs x → Has (map f xs) (f x)
to_map f [] x h = absurd h
to_map f (y ∷ xs) x (inl same) = inl (ap f same)
to_map f (y ∷ xs) x (inr more) = inr (to_map f xs x more)

pub from_map : {A B : Type 0} (f : A → B) (xs : List A) (y : B) → Has (map f xs) y → (x : A) × Has xs x × (f x ≡ y)
from_map f [] y h = absurd h
from_map f (x ∷ xs) y (inl same) = (x, inl refl, same)
from_map f (x ∷ xs) y (inr more) = let rest = from_map f xs y more in (rest.0, inr rest.1, rest.2)

abbrev next : Born → Listing → Listing
next one list = list_listed one.number (list_met list one.note)

pub listed_stays : (born : List Born) (list : Listing) (n : ℕ) → Has list.listed n → Has (all_listed born list).listed n
listed_stays [] list n h = h
listed_stays (one ∷ born) list n h = listed_stays born (next one list) n (inr h)

pub ever_stays : (born : List Born) (list : Listing) (n : ℕ) → Has list.ever n → Has (all_listed born list).ever n
ever_stays [] list n h = h
ever_stays (one ∷ born) list n h = ever_stays born (next one list) n (inr h)

pub knows_stays : (born : List Born) (list : Listing) (k : Known) → Has list.noted.knows k → Has (all_listed born list).noted.knows k
knows_stays [] list k h = h
knows_stays (one ∷ born) list k h = knows_stays born (next one list) k (has_left list.noted.knows one.note.knows k h)

pub board_stays : (born : List Born) (list : Listing) → (all_listed born list).noted.board ≡ list.noted.board
board_stays [] list = refl
board_stays (one ∷ born) list = board_stays born (next one list)

pub listed_in : (born : List Born) (list : Listing) (one : Born) → Has born one → Has (all_listed born list).listed one.number
listed_in [] list one h = absurd h
listed_in (x ∷ born) list one (inl same) = listed_stays born (next x list) one.number (inl (ap (λ (b : Born). b.number) same))
listed_in (x ∷ born) list one (inr more) = listed_in born (next x list) one more

pub listed_from : (born : List Born) (list : Listing) (n : ℕ) → Has (all_listed born list).listed n → Has list.listed n ⊎ ((one : Born) × Has born one × (one.number ≡ n))
listed_from [] list n h = inl h
listed_from (x ∷ born) list n h =
    ⊎_elim (λ l. ⊎_elim (λ e. inr (x, inl refl, e)) (λ t. inl t) l) (λ r. inr (r.0, inr r.1, r.2)) (listed_from born (next x list) n h)

pub known_in : (born : List Born) (list : Listing) (one : Born) → Has born one → IsShownBy one.note one.number one.service one.index one.span
    → Has (all_listed born list).noted.knows (known_as one.number one.service one.index one.span)
known_in [] list one h shown = absurd h
known_in (x ∷ born) list one (inl same) shown =
    let k = known_as one.number one.service one.index one.span in
    knows_stays born (next x list) k (has_right list.noted.knows x.note.knows k (subst (λ (b : Born). Has b.note.knows k) (sym same) shown))
known_in (x ∷ born) list one (inr more) shown = known_in born (next x list) one more shown

-- the next one isn't where a line is
pub may_apart : (list : Listing) (lines : List Line) (one : Born) (born : List Born) → MayBeListed list lines (one ∷ born) → ¬ Has list.ever one.number
    → (other : Line) → Has lines other → ¬ ShareLeft other (line_of one)
may_apart list lines one born may first other has share =
    let same = may.lefts other (line_of one) (inl has) (inl refl) share in
    first (subst (λ n. Has list.ever n) (ap (λ (l : Line). l.number) same) (may.listed other has))

-- once it is listed, the others may be
pub may_next : (list : Listing) (lines after : List Line) (one : Born) (born : List Born) → MayBeListed list lines (one ∷ born) → LinesStandInOrder after
    → ((other : Line) → (Has after other → Has lines other ⊎ (line_of one ≡ other)) × (Has lines other ⊎ (line_of one ≡ other) → Has after other))
    → MayBeListed (next one list) after born
may_next list lines after one born may order has = record {
  order = order;
  fresh = λ b h. may.fresh b (inr h);
  listed = λ line h. ⊎_elim (λ old. inr (may.listed line old)) (λ e. inl (ap (λ (l : Line). l.number) e)) ((has line).0 h);
  lefts = λ line other h ho share.
      may.lefts line other (⊎_elim (λ l. ⊎_elim (λ old. inl old) (λ e. inr (inl e)) ((has line).0 l)) (λ r. inr (inr r)) h) (inr ho) share;
}

-- the lines so far and those to come are the same as before
pub added_next : (lines after : List Line) (one : Born) (born : List Born)
    → ((other : Line) → (Has after other → Has lines other ⊎ (line_of one ≡ other)) × (Has lines other ⊎ (line_of one ≡ other) → Has after other))
    → (line : Line) → (Has after line ⊎ Has (map line_of born) line → Has lines line ⊎ Has (map line_of (one ∷ born)) line)
    × (Has lines line ⊎ Has (map line_of (one ∷ born)) line → Has after line ⊎ Has (map line_of born) line)
added_next lines after one born has line = (
  λ h. ⊎_elim (λ l. ⊎_elim (λ old. inl old) (λ e. inr (inl e)) ((has line).0 l)) (λ r. inr (inr r)) h,
  λ h. ⊎_elim (λ old. inl ((has line).1 (inl old))) (λ r. ⊎_elim (λ e. inl ((has line).1 (inr e))) (λ t. inr t) r) h,
)

-- all that a list knew before it knows after
pub reaches_listed : (born : List Born) (list : Listing) → Reaches list.noted (all_listed born list).noted
reaches_listed [] list = reaches_self list.noted
reaches_listed (one ∷ born) list =
    let step : Reaches list.noted (next one list).noted =
    record {
      board = refl;
      knows = λ k h. has_left list.noted.knows one.note.knows k h;
      dead = λ n h. has_left list.noted.dead one.note.dead n h;
      once = λ n h. inr (has_left list.noted.once one.note.once n h);
      counts = λ k h. has_left list.noted.counts one.note.counts k h;
    } in
    reaches_on list.noted (next one list).noted (all_listed born (next one list)).noted step (reaches_listed born (next one list))
