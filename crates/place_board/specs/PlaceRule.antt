-- The rule of the place board: what ties the words, each view beside the words, and each two views. It holds between any two steps of any threads.
use Rattle.std.specs.Prelude.{◌≡◌, ℕ, ◌+◌, ◌*◌, ◌<◌, ◌≤◌, Bool, true, List, slice_index}
use Rattle.base_core.specs.Lists.{Has}
use Rattle.seat_rule.specs.Pairs.{PairRule}
use Rattle.place_board.specs.declared.view.View.{View}
use Rattle.place_board.specs.declared.view.Known.{Known}
use Rattle.place_board.specs.declared.view.Counted.{Counted}
use Rattle.place_board.specs.Words.{IsService, IsOf, count_word, IsBoard, IsKnown, Agree}

-- a service's view beside the words
pub record Serves (words : List ℕ) (v : View) : Type 0 where
  pub plain : ¬ (v.is_list ≡ true)
  pub service : IsService v.service
  -- its next number is one of its class, or the one past it
  pub next : (v.next ≤ v.service * 2048) × (v.service * 2048 ≤ v.next + 2048)
  -- of its class it knows the numbers below the next, and the others are unborn
  pub below : (n : ℕ) → IsOf v.service n → n < v.next → IsKnown v.knows n
  pub from : (n : ℕ) → IsOf v.service n → v.next ≤ n → slice_index words n ≡ 0
  -- it bears each live number of its class, and only numbers that were born
  pub mine : (n : ℕ) → IsOf v.service n → slice_index words n ≡ 1 → Has v.mine n
  pub mine_below : (n : ℕ) → Has v.mine n → IsOf v.service n × (n < v.next)
  -- its count word is what it posted
  pub posted : slice_index words (count_word v.service) ≡ v.posted

-- the list's view beside the words
pub record Lists (words : List ℕ) (v : View) : Type 0 where
  pub plain : ¬ (v.is_service ≡ true)
  pub services : v.services ≤ 16
  -- it knows all that was ever listed, which is what its own `once` has; what is listed is a part of it
  pub known : (n : ℕ) → Has v.ever n → IsKnown v.knows n
  pub once : (n : ℕ) → Has v.once n → Has v.ever n
  pub shown : (n : ℕ) → Has v.ever n → Has v.once n
  pub listed : (n : ℕ) → Has v.listed n → Has v.ever n
  -- nothing fresh was ever listed
  pub fresh : (n : ℕ) → Has v.fresh n → ¬ Has v.ever n
  -- what is retired was listed and is not now; what was listed and is not now is dead, and so it is retired
  pub retired : (n : ℕ) → n < 32768 → slice_index words n ≡ 2 → Has v.ever n × ¬ Has v.listed n
  pub gone : (n : ℕ) → Has v.ever n → ¬ Has v.listed n → Has v.dead n
  -- services without a seat have borne nothing and posted nothing
  pub rest : (n : ℕ) → v.services * 2048 ≤ n → n < 32768 → slice_index words n ≡ 0
  pub silent : (k : ℕ) → v.services < k → k ≤ 16 → slice_index words (count_word k) ≡ 0

-- any view beside the words
pub record Fits (words : List ℕ) (v : View) : Type 0 where
  -- a known number is of its service, and was born
  pub known : (k : Known) → Has v.knows k → IsService k.service × IsOf k.service k.number × (0 < slice_index words k.number)
  pub agrees : Agree v.knows v.knows
  -- a dead number is known and retired, and a fresh one is known
  pub dead : (n : ℕ) → Has v.dead n → IsKnown v.knows n × (slice_index words n ≡ 2)
  pub fresh : (n : ℕ) → Has v.fresh n → IsKnown v.knows n
  -- each count that it saw was posted
  pub counts : (c : Counted) → Has v.counts c → (0 < c.service) × (c.count ≤ slice_index words (count_word c.service))
  pub serves : v.is_service ≡ true → Serves words v
  pub lists : v.is_list ≡ true → Lists words v

-- the list's view beside any other
pub record IsListOver (l v : View) : Type 0 where
  -- there is one list
  pub one : ¬ (v.is_list ≡ true)
  -- it has given out the seat of each service
  pub seat : v.is_service ≡ true → v.service ≤ l.services
  -- what the other has as listed once was listed, and what it has fresh was not
  pub once : (n : ℕ) → Has v.once n → Has l.ever n
  pub fresh : (n : ℕ) → Has v.fresh n → ¬ Has l.ever n

-- the views of two seats
pub record AreApart (v w : View) : Type 0 where
  -- what both know of one number is the same
  pub agree : Agree v.knows w.knows
  -- a number is fresh in one view alone
  pub fresh : (n : ℕ) → Has v.fresh n → ¬ Has w.fresh n
  -- no two have the seat of one service
  pub services : v.is_service ≡ true → w.is_service ≡ true → ¬ (v.service ≡ w.service)
  pub over : v.is_list ≡ true → IsListOver v w
  pub under : w.is_list ≡ true → IsListOver w v

abbrev pub is_live : View → Bool
is_live v = v.live

abbrev pub PlaceRule : List ℕ → List View → Type 0
PlaceRule words views = PairRule IsBoard Fits AreApart is_live words views
