-- Rows of several runs, of each of which a front was passed.
use Rattle.std.proofs.Common.{◌≡◌, ◌≢◌, ◌↔◌, ◌+◌, ◌-◌, ◌<◌, ◌≤◌, ℕ, zero, suc, List, [], ◌∷◌, ◌++◌, length, take, drop, set, get_or, Bool, true, false, not, refl, sym, ap, ◌∙◌, subst, arith, inl, inr}
use Rattle.std.specs.Prelude.{◌⊎◌, Option, Some, None}
use Rattle.std.specs.List.{AllByRecursion}
use Rattle.std.specs.Ordering.{is_lt, is_le, nat_cmp}
use Rattle.std.specs.Cmp.Lexicographic.{slice_cmp}
use Rattle.std.proofs.lemmas.Bool.{cases_lt, cases_order}
use Rattle.std.proofs.lemmas.List.{take-append-drop, drop_more, drop_all, get_or-set_same, get_or-set_other, get_or-take, length-take-le, length-append, get_or_append_left, get_or_push, get_or_read}
use Rattle.base_core.specs.Lists.{Has}
use Rattle.fed_bytes.specs.Keys.{IsBefore, IsUpTo}
use Rattle.fed_bytes.proofs.Orders.{no_answer, turned, before_up_to, up_to-chain, up_to-itself}
use Rattle.row_core.specs.declared.rows.Row.{Row}
use Rattle.window_core.specs.Packed.{row_at}
use Rattle.row_core.specs.Rows.{ComesBefore, StandInOrder}
use Rattle.window_core.specs.Runs.{all_of, run_at, number_at, AreRuns, RunsRise, IsLeftOf, IsLeastOf, IsLeast, IsFirstFrom, ArePassedTo}
use Rattle.row_core.proofs.Lists.{of_each, in_front, in_one}
use Rattle.row_core.proofs.Order.{up_to_is, up_to_later, first_or_later}
use Rattle.window_core.proofs.Arranging.{all_of-append, older_runs}
use Rattle.window_core.proofs.Merging.{drop_at_row, drop_in_order, has_dropped, has_at_index, left_up_to}

-- ---- runs by their indexes
split_runs : (runs : List (List Row)) (index : ℕ) → index < length runs → take index runs ++ run_at runs index ∷ drop (index + 1) runs ≡ runs
split_runs runs index within = ap (λ list. take index runs ++ list) (sym (drop_more runs index [] within)) ∙ take-append-drop index runs

pub run_in_all : (runs : List (List Row)) (index : ℕ) (row : Row) → index < length runs → Has (run_at runs index) row → Has (all_of runs) row
run_in_all runs index row within there =
    let In : List (List Row) → Type 0 = λ list. Has (all_of list) row in
    subst In (split_runs runs index within)
    ((all_of-append (take index runs) (run_at runs index ∷ drop (index + 1) runs) row).1 (inr (in_front (run_at runs index) (all_of (drop (index + 1) runs)) row there)))

each_run : (runs : List (List Row)) (index : ℕ) → AllByRecursion StandInOrder runs → StandInOrder (run_at runs index)
each_run [] index all = tt
each_run (run ∷ runs) zero all = all.0
each_run (run ∷ runs) (suc index) all = each_run runs index all.1

pub run_in_order : (runs : List (List Row)) (index : ℕ) → AreRuns runs → StandInOrder (run_at runs index)
run_in_order runs index are = each_run runs index are.0

-- a row of an earlier run is older than one of a later run
pub older_at : (runs : List (List Row)) (index later : ℕ) (one other : Row) → AreRuns runs → index < later → later < length runs
    → Has (run_at runs index) one → Has (run_at runs later) other → one.time < other.time
older_at runs index later one other are earlier within there again =
    let Rise : List (List Row) → Type 0 = λ list. RunsRise list in
    let In : List Row → Type 0 = λ list. Has list one in
    let short : index < length (take later runs) = let cut = length-take-le later runs (omega (arith, within)) in omega (arith, cut, earlier) in
    older_runs (take later runs) (run_at runs later ∷ drop (later + 1) runs) (subst Rise (sym (split_runs runs later within)) are.1) one other
    (run_in_all (take later runs) index one short (subst In (sym (get_or-take later runs index [] earlier)) there))
    (in_front (run_at runs later) (all_of (drop (later + 1) runs)) other again)

abbrev Placed : List (List Row) → Row → Type 0
Placed runs row = (index : ℕ) × (index < length runs) × Has (run_at runs index) row

one_later : (run : List Row) (runs : List (List Row)) (row : Row) → Has run row ⊎ Has (all_of runs) row → (Has (all_of runs) row → Placed runs row) → Placed (run ∷ runs) row
one_later run runs row (inl there) f = (0, omega arith, there)
one_later run runs row (inr there) f = let (index, within, at) = f there in (suc index, omega (arith, within), at)

pub placed : (runs : List (List Row)) (row : Row) → Has (all_of runs) row → Placed runs row
placed [] row there = absurd there
placed (run ∷ runs) row there = one_later run runs row (in_one run (all_of runs) row there) (placed runs row)

-- ---- the first of all rows that are left
abbrev pub first_left : List (List Row) → List ℕ → ℕ → Row
first_left runs passed index = row_at (run_at runs index) (number_at passed index)

pub least_none : (runs : List (List Row)) (passed : List ℕ) → IsLeast runs passed 0 None
least_none runs passed row (index, below, there) = absurd (omega (arith, below))

-- a row that is left of one more run
left_one : (runs : List (List Row)) (passed : List ℕ) (next : ℕ) (row : Row) → IsLeftOf runs passed (next + 1) row
    → IsLeftOf runs passed next row ⊎ Has (drop (number_at passed next) (run_at runs next)) row
left_one runs passed next row (index, below, there) = elim (cases_lt index next) [
  | inl earlier ↦ inl (index, earlier, there)
  | inr past ↦ (let same : index ≡ next = omega (arith, below, past) in
      let Left : ℕ → Type 0 = λ n. Has (drop (number_at passed n) (run_at runs n)) row in inr (subst Left same there))
]

-- the next run has no row left
past_by : (runs : List (List Row)) (passed : List ℕ) (next : ℕ) (row : Row) → length (run_at runs next) ≤ number_at passed next
    → Has (drop (number_at passed next) (run_at runs next)) row → ⊥
past_by runs passed next row past there = let In : List Row → Type 0 = λ list. Has list row in subst In (drop_all (number_at passed next) (run_at runs next) past) there

kept_by : (runs : List (List Row)) (passed : List ℕ) (next : ℕ) (row : Row) → length (run_at runs next) ≤ number_at passed next
    → IsLeftOf runs passed next row ⊎ Has (drop (number_at passed next) (run_at runs next)) row → IsLeftOf runs passed next row
kept_by runs passed next row past (inl h) = h
kept_by runs passed next row past (inr there) = absurd (past_by runs passed next row past there)

pub least_past : (runs : List (List Row)) (passed : List ℕ) (next : ℕ) (found : Option ℕ) → length (run_at runs next) ≤ number_at passed next → IsLeast runs passed next found
    → IsLeast runs passed (next + 1) found
least_past runs passed next None past is = λ row left. is row (kept_by runs passed next row past (left_one runs passed next row left))
least_past runs passed next (Some index) past is = record {
  there = let below = is.there in omega (arith, below);
  left = is.left;
  least = λ row left. is.least row (kept_by runs passed next row past (left_one runs passed next row left));
}

own_first : (runs : List (List Row)) (passed : List ℕ) (next : ℕ) (row : Row) → AreRuns runs → number_at passed next < length (run_at runs next)
    → Has (drop (number_at passed next) (run_at runs next)) row → (first_left runs passed next ≡ row) ⊎ ComesBefore (first_left runs passed next) row
own_first runs passed next row are within there =
    let run = run_at runs next in
    let at = number_at passed next in
    let In : List Row → Type 0 = λ list. Has list row in
    first_or_later (row_at run at) row (drop (at + 1) run) (subst StandInOrder (drop_at_row run at within) (drop_in_order run at (run_in_order runs next are)))
    (subst In (drop_at_row run at within) there)

-- the first one that has a row left
pub least_first : (runs : List (List Row)) (passed : List ℕ) (next : ℕ) → AreRuns runs → number_at passed next < length (run_at runs next) → IsLeast runs passed next None
    → IsLeast runs passed (next + 1) (Some next)
least_first runs passed next are within none = record {
  there = omega arith;
  left = within;
  least = λ row left. elim (left_one runs passed next row left) [ inl h ↦ absurd (none row h) | inr there ↦ own_first runs passed next row are within there ];
}

-- the one that was found stays
stays_by : (runs : List (List Row)) (passed : List ℕ) (next found : ℕ) (row : Row) → AreRuns runs → number_at passed next < length (run_at runs next)
    → IsLeastOf runs passed next found → IsBefore (first_left runs passed found).key (first_left runs passed next).key
    → IsLeftOf runs passed next row ⊎ Has (drop (number_at passed next) (run_at runs next)) row → (first_left runs passed found ≡ row) ⊎ ComesBefore (first_left runs passed found) row
stays_by runs passed next found row are within is before (inl h) = is.least row h
stays_by runs passed next found row are within is before (inr there) =
    inr (inl (before_up_to (first_left runs passed found).key (first_left runs passed next).key row.key before
    (left_up_to (run_at runs next) (number_at passed next) row (run_in_order runs next are) there within)))

pub least_stays : (runs : List (List Row)) (passed : List ℕ) (next found : ℕ) → AreRuns runs → number_at passed next < length (run_at runs next) → IsLeast runs passed next (Some found)
    → IsBefore (first_left runs passed found).key (first_left runs passed next).key → IsLeast runs passed (next + 1) (Some found)
least_stays runs passed next found are within is before = record {
  there = let below = is.there in omega (arith, below);
  left = is.left;
  least = λ row left. stays_by runs passed next found row are within is before (left_one runs passed next row left);
}

-- the next one has the first row
newer_by : (row later : Row) → later.time < row.time → IsBefore row.key later.key ⊎ (row.key ≡ later.key) → ComesBefore row later
newer_by row later older (inl before) = inl before
newer_by row later older (inr same) = inr (same, older)

key_up_to : (first row : Row) → (first ≡ row) ⊎ ComesBefore first row → IsUpTo first.key row.key
key_up_to first row (inl e) = subst (λ r. IsUpTo first.key r.key) e (up_to-itself first.key)
key_up_to first row (inr p) = up_to_later first row p

turns_by : (runs : List (List Row)) (passed : List ℕ) (next found : ℕ) (row : Row) → AreRuns runs → next < length runs → number_at passed next < length (run_at runs next)
    → IsLeastOf runs passed next found → IsUpTo (first_left runs passed next).key (first_left runs passed found).key
    → IsLeftOf runs passed next row ⊎ Has (drop (number_at passed next) (run_at runs next)) row → (first_left runs passed next ≡ row) ⊎ ComesBefore (first_left runs passed next) row
turns_by runs passed next found row are there within is up_to (inr own) = own_first runs passed next row are within own
turns_by runs passed next found row are there within is up_to (inl (index, earlier, left)) =
    let first = first_left runs passed next in
    let chain = up_to-chain first.key (first_left runs passed found).key row.key up_to (key_up_to (first_left runs passed found) row (is.least row (index, earlier, left))) in
    let older = older_at runs index next row first are earlier there (has_dropped (run_at runs index) (number_at passed index) row left)
    (has_dropped (run_at runs next) (number_at passed next) first (has_at_index (run_at runs next) (number_at passed next) within)) in
    inr (newer_by first row older (up_to_is first.key row.key chain))

pub least_turns : (runs : List (List Row)) (passed : List ℕ) (next found : ℕ) → AreRuns runs → next < length runs → number_at passed next < length (run_at runs next)
    → IsLeast runs passed next (Some found) → IsUpTo (first_left runs passed next).key (first_left runs passed found).key → IsLeast runs passed (next + 1) (Some next)
least_turns runs passed next found are there within is up_to = record {
  there = omega arith;
  left = within;
  least = λ row left. turns_by runs passed next found row are there within is up_to (left_one runs passed next row left);
}

-- ---- one row more is passed
abbrev Left : List (List Row) → List ℕ → Row → Type 0
Left runs passed row = IsLeftOf runs passed (length runs) row

passed_own : (runs : List (List Row)) (passed : List ℕ) (index : ℕ) → index < length passed → number_at (set passed index (number_at passed index + 1)) index ≡ number_at passed index + 1
passed_own runs passed index within = get_or-set_same passed index (number_at passed index + 1) 0 within

left_other : (runs : List (List Row)) (passed : List ℕ) (index other : ℕ) (row : Row) → other ≢ index
    → (Has (drop (number_at (set passed index (number_at passed index + 1)) other) (run_at runs other)) row ↔ Has (drop (number_at passed other) (run_at runs other)) row)
left_other runs passed index other row apart =
    let same = get_or-set_other passed index other (number_at passed index + 1) 0 apart in
    let Left_at : ℕ → Type 0 = λ n. Has (drop n (run_at runs other)) row in
    (subst Left_at same, subst Left_at (sym same))

pub left_before : (runs : List (List Row)) (passed : List ℕ) (index : ℕ) (row : Row) → index < length passed → index < length runs → number_at passed index < length (run_at runs index)
    → IsLeftOf runs (set passed index (number_at passed index + 1)) (length runs) row → IsLeftOf runs passed (length runs) row
left_before runs passed index row stands there within (other, below, left) = elim (cases_order other index) [
  | inl same ↦ (let Left_of : ℕ → Type 0 = λ n. Has (drop (number_at (set passed index (number_at passed index + 1)) n) (run_at runs n)) row in
      let at = subst Left_of same left in
      let Left_at : ℕ → Type 0 = λ n. Has (drop n (run_at runs index)) row in
      let behind_first = subst Left_at (passed_own runs passed index stands) at in
      let In : List Row → Type 0 = λ list. Has list row in
      (index, there, subst In (sym (drop_at_row (run_at runs index) (number_at passed index) within)) (inr behind_first)))
  | inr (inl less) ↦ (other, below, (left_other runs passed index other row (λ e. omega (arith, less, e))).0 left)
  | inr (inr more) ↦ (other, below, (left_other runs passed index other row (λ e. omega (arith, more, e))).0 left)
]

own_after : (runs : List (List Row)) (passed : List ℕ) (index : ℕ) (row : Row) → index < length passed → index < length runs
    → (first_left runs passed index ≡ row) ⊎ Has (drop (number_at passed index + 1) (run_at runs index)) row
    → (first_left runs passed index ≡ row) ⊎ IsLeftOf runs (set passed index (number_at passed index + 1)) (length runs) row
own_after runs passed index row stands there (inl e) = inl e
own_after runs passed index row stands there (inr later) =
    let Left_at : ℕ → Type 0 = λ n. Has (drop n (run_at runs index)) row in inr (index, there, subst Left_at (sym (passed_own runs passed index stands)) later)

pub left_after : (runs : List (List Row)) (passed : List ℕ) (index : ℕ) (row : Row) → index < length passed → index < length runs → number_at passed index < length (run_at runs index)
    → IsLeftOf runs passed (length runs) row → (first_left runs passed index ≡ row) ⊎ IsLeftOf runs (set passed index (number_at passed index + 1)) (length runs) row
left_after runs passed index row stands there within (other, below, left) = elim (cases_order other index) [
  | inl same ↦ (let Left_of : ℕ → Type 0 = λ n. Has (drop (number_at passed n) (run_at runs n)) row in
      let In : List Row → Type 0 = λ list. Has list row in
      own_after runs passed index row stands there (subst In (drop_at_row (run_at runs index) (number_at passed index) within) (subst Left_of same left)))
  | inr (inl less) ↦ inr (other, below, (left_other runs passed index other row (λ e. omega (arith, less, e))).1 left)
  | inr (inr more) ↦ inr (other, below, (left_other runs passed index other row (λ e. omega (arith, more, e))).1 left)
]

apart_by : (runs : List (List Row)) (passed : List ℕ) (index other : ℕ) (row : Row) → AreRuns runs → index < length runs → number_at passed index < length (run_at runs index)
    → other < length runs → Has (run_at runs other) row → first_left runs passed index ≡ row → (index < other) ⊎ (other < index) → ⊥
apart_by runs passed index other row are there within below stands same (inl earlier) =
    let first = first_left runs passed index in
    let own = has_dropped (run_at runs index) (number_at passed index) first (has_at_index (run_at runs index) (number_at passed index) within) in
    let older = older_at runs index other first row are earlier below own stands in
    let times : first.time ≡ row.time = ap (λ r. r.time) same in omega (arith, older, times)
apart_by runs passed index other row are there within below stands same (inr later) =
    let first = first_left runs passed index in
    let own = has_dropped (run_at runs index) (number_at passed index) first (has_at_index (run_at runs index) (number_at passed index) within) in
    let older = older_at runs other index row first are later there stands own in
    let times : first.time ≡ row.time = ap (λ r. r.time) same in omega (arith, older, times)

apart_before : (runs : List (List Row)) (passed : List ℕ) (index other : ℕ) (row : Row) → AreRuns runs → index < length runs → IsLeastOf runs passed (length runs) index
    → other < length runs → (index < other) ⊎ (other < index) → Has (drop (number_at passed other) (run_at runs other)) row → ComesBefore (first_left runs passed index) row
apart_before runs passed index other row are there is below apart left = elim (is.least row (other, below, left)) [
  | inl same ↦ absurd (apart_by runs passed index other row are there is.left below (has_dropped (run_at runs other) (number_at passed other) row left) same apart)
  | inr p ↦ p
]

-- the first row of all comes before each that is left behind it
pub before_after : (runs : List (List Row)) (passed : List ℕ) (index : ℕ) (row : Row) → AreRuns runs → index < length passed → index < length runs
    → IsLeastOf runs passed (length runs) index → IsLeftOf runs (set passed index (number_at passed index + 1)) (length runs) row → ComesBefore (first_left runs passed index) row
before_after runs passed index row are stands there is (other, below, left) = elim (cases_order other index) [
  | inl same ↦ (let Left_of : ℕ → Type 0 = λ n. Has (drop (number_at (set passed index (number_at passed index + 1)) n) (run_at runs n)) row in
      let Left_at : ℕ → Type 0 = λ n. Has (drop n (run_at runs index)) row in
      let later = subst Left_at (passed_own runs passed index stands) (subst Left_of same left) in
      let run = run_at runs index in
      let at = number_at passed index in
      of_each (ComesBefore (row_at run at)) (drop (at + 1) run) (subst StandInOrder (drop_at_row run at is.left) (drop_in_order run at (run_in_order runs index are))).0 row later)
  | inr (inl less) ↦ apart_before runs passed index other row are there is below (inr less) ((left_other runs passed index other row (λ e. omega (arith, less, e))).0 left)
  | inr (inr more) ↦ apart_before runs passed index other row are there is below (inl more) ((left_other runs passed index other row (λ e. omega (arith, more, e))).0 left)
]

-- ---- how many rows are left
pub left_count : List (List Row) → List ℕ → ℕ
left_count [] passed = 0
left_count (run ∷ runs) [] = 0
left_count (run ∷ runs) (at ∷ passed) = (length run - at) + left_count runs passed

pub left_less : (runs : List (List Row)) (passed : List ℕ) (index : ℕ) → index < length runs → index < length passed → number_at passed index < length (run_at runs index)
    → left_count runs (set passed index (number_at passed index + 1)) < left_count runs passed
unfolding left_count
left_less [] passed index there stands left = absurd (omega (arith, there))
left_less (run ∷ runs) [] index there stands left = absurd (omega (arith, stands))
left_less (run ∷ runs) (at ∷ passed) zero there stands left = omega (arith, left)
left_less (run ∷ runs) (at ∷ passed) (suc index) there stands left =
    let rest = left_less runs passed index (omega (arith, there)) (omega (arith, stands)) left in omega (arith, rest)

-- ---- the first of each run, one run after the other
pub record ArePassedUpTo (runs : List (List Row)) (key : List ℕ) (time count : ℕ) (passed : List ℕ) : Type 0 where
  pub long : length passed ≡ count
  pub each : (index : ℕ) → index < count → IsFirstFrom (run_at runs index) key time (number_at passed index)

pub passed_none : (runs : List (List Row)) (key : List ℕ) (time : ℕ) (passed : List ℕ) → passed ≡ [] → ArePassedUpTo runs key time 0 passed
passed_none runs key time passed none = record { long = ap length none; each = λ index below. absurd (omega (arith, below)) }

passed_by : (runs : List (List Row)) (key : List ℕ) (time count : ℕ) (passed : List ℕ) (first index : ℕ) → ArePassedUpTo runs key time count passed
    → IsFirstFrom (run_at runs count) key time first → (index < count) ⊎ (index ≡ count) → IsFirstFrom (run_at runs index) key time (number_at (passed ++ first ∷ []) index)
passed_by runs key time count passed first index are is (inl below) =
    let kept = get_or_append_left passed (first ∷ []) 0 index (let long = are.long in omega (arith, long, below)) in
    subst (IsFirstFrom (run_at runs index) key time) (sym kept) (are.each index below)
passed_by runs key time count passed first index are is (inr same) =
    let put = get_or_push passed first 0 index (are.long ∙ sym same) in
    let At : ℕ → Type 0 = λ n. IsFirstFrom (run_at runs n) key time (number_at (passed ++ first ∷ []) index) in
    subst At (sym same) (subst (IsFirstFrom (run_at runs count) key time) (sym put) is)

pub passed_more : (runs : List (List Row)) (key : List ℕ) (time count : ℕ) (passed more : List ℕ) (first : ℕ) → ArePassedUpTo runs key time count passed
    → IsFirstFrom (run_at runs count) key time first → more ≡ passed ++ first ∷ [] → ArePassedUpTo runs key time (count + 1) more
passed_more runs key time count passed more first are is added = subst (ArePassedUpTo runs key time (count + 1)) (sym added) (record {
  long = let long = are.long in let size = length-append passed (first ∷ []) in omega (arith, long, size);
  each = λ index below. passed_by runs key time count passed first index are is (elim (cases_lt index count) [ inl less ↦ inl less | inr past ↦ inr (omega (arith, below, past)) ]);
})

pub passed_all : (runs : List (List Row)) (key : List ℕ) (time count : ℕ) (passed : List ℕ) → count ≡ length runs → ArePassedUpTo runs key time count passed → ArePassedTo runs key time passed
passed_all runs key time count passed all are = record { count = are.long ∙ all; each = λ index within. are.each index (omega (arith, within, all)) }

-- ---- what was read of the runs
pub key_read : (runs : List (List Row)) (passed : List ℕ) (index : ℕ) (run : List Row) (key : List ℕ) → index < length runs → run ≡ get_or runs index run
    → key ≡ (row_at run (number_at passed index)).key → key ≡ (first_left runs passed index).key
key_read runs passed index run key within read is = is ∙ ap (λ r. (row_at r (number_at passed index)).key) (get_or_read runs index run within read [])

pub left_read : (runs : List (List Row)) (passed : List ℕ) (index len : ℕ) (run : List Row) → index < length runs → run ≡ get_or runs index run → len ≡ length run
    → number_at passed index < len → number_at passed index < length (run_at runs index)
left_read runs passed index len run within read size left = let same = ap length (get_or_read runs index run within read []) in omega (arith, same, size, left)

pub past_read : (runs : List (List Row)) (passed : List ℕ) (index len : ℕ) (run : List Row) → index < length runs → run ≡ get_or runs index run → len ≡ length run
    → len ≤ number_at passed index → length (run_at runs index) ≤ number_at passed index
past_read runs passed index len run within read size past = let same = ap length (get_or_read runs index run within read []) in omega (arith, same, size, past)

pub found_there : (runs : List (List Row)) (passed : List ℕ) (count index : ℕ) → IsLeast runs passed count (Some index) → index < count
found_there runs passed count index is = is.there

pub before_read : (result : Bool) (one other a b : List ℕ) → result ≡ is_lt (slice_cmp nat_cmp one other) → one ≡ a → other ≡ b → result ≡ true → IsBefore a b
before_read result one other a b is same again h = subst (IsBefore a) again (subst (λ k. IsBefore k other) same (sym is ∙ h))

not_le : (b : Bool) → not b ≡ false → b ≡ true
not_le true h = refl
not_le false h = no_answer (sym h)

pub not_before_read : (result : Bool) (one other a b : List ℕ) → result ≡ is_lt (slice_cmp nat_cmp one other) → one ≡ a → other ≡ b → result ≡ false → IsUpTo b a
not_before_read result one other a b is same again h =
    let turn : IsUpTo other one = not_le (is_le (slice_cmp nat_cmp other one)) (sym (turned one other) ∙ sym is ∙ h) in
    subst (λ k. IsUpTo k a) again (subst (IsUpTo other) same turn)
