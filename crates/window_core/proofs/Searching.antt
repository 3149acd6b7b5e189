-- The newest row of a key at or before a time, in a run and in several.
use Rattle.std.proofs.Common.{◌≡◌, ◌≢◌, ◌+◌, ◌<◌, ◌≤◌, ℕ, List, [], ◌∷◌, ◌++◌, length, take, drop, get_or, Bool, true, false, refl, sym, ap, ◌∙◌, subst, arith, inl, inr, Ordering}
use Rattle.std.specs.declared.cmp.Ordering.TheVariants.{Less, Equal, Greater}
use Rattle.std.specs.Prelude.{◌⊎◌, Some, None}
use Rattle.std.specs.List.{AllByRecursion}
use Rattle.std.specs.Ordering.{is_lt, is_le, nat_cmp, ordering_then}
use Rattle.std.specs.Cmp.Lexicographic.{slice_cmp, nat_list_cmp_total}
use Rattle.std.proofs.lemmas.Cmp.{ranked, tied_itself}
use Rattle.std.proofs.lemmas.List.{take-append-drop, drop_more, drop_all, get_or_read}
use Rattle.base_core.specs.Lists.{Has}
use Rattle.fed_bytes.specs.Keys.{IsBefore}
use Rattle.fed_bytes.proofs.Orders.{no_answer, before_up_to}
use Rattle.row_core.specs.declared.rows.Row.{Row}
use Rattle.window_core.specs.Packed.{row_at}
use Rattle.row_core.specs.Rows.{ComesBefore, StandInOrder, IsAt, IsLast}
use Rattle.window_core.specs.Runs.{reaches, IsFirstFrom, IsFoundAt, all_of, merged, run_at, AreRuns}
use Rattle.row_core.proofs.Lists.{of_each, each, all_of_both, in_front as in_run, in_one}
use Rattle.row_core.proofs.Order.{one_key, not_before_itself, up_to_later, first_or_later, front_before}
use Rattle.window_core.proofs.Arranging.{merged_has, all_of-append, older_runs}
use Rattle.window_core.proofs.Merging.{drop_at_row, take_at_row, drop_in_order, has_dropped}

-- ---- what it is to be reached
at_most : (m n : ℕ) (r : Ordering) → nat_cmp m n ≡ r → is_le r ≡ true → m ≤ n
at_most m n Less is h = let lower = ranked m n Less (sym is) in omega arith
at_most m n Equal is h = let same = ranked m n Equal (sym is) in omega arith
at_most m n Greater is h = no_answer h

at_most_by : (m n : ℕ) (r : Ordering) → nat_cmp m n ≡ r → m ≤ n → is_le r ≡ true
at_most_by m n Less is h = refl
at_most_by m n Equal is h = refl
at_most_by m n Greater is h = let higher = ranked m n Greater (sym is) in absurd (omega arith)

reached_by : (key : List ℕ) (time : ℕ) (row : Row) (r : Ordering) → slice_cmp nat_cmp key row.key ≡ r → is_le (ordering_then r (nat_cmp row.time time)) ≡ true
    → IsBefore key row.key ⊎ ((key ≡ row.key) × (row.time ≤ time))
reached_by key time row Less is h = inl (ap is_lt is)
reached_by key time row Equal is h = inr (one_key key row.key is, at_most row.time time _ refl h)
reached_by key time row Greater is h = no_answer h

pub reached : (key : List ℕ) (time : ℕ) (row : Row) → reaches key time row ≡ true → IsBefore key row.key ⊎ ((key ≡ row.key) × (row.time ≤ time))
reached key time row h = reached_by key time row (slice_cmp nat_cmp key row.key) refl h

reaches_by : (o r : Ordering) → is_lt r ≡ true → is_le (ordering_then r o) ≡ true
reaches_by o Less h = refl
reaches_by o Equal h = no_answer h
reaches_by o Greater h = no_answer h

pub reaches_later : (key : List ℕ) (time : ℕ) (row : Row) → IsBefore key row.key → reaches key time row ≡ true
reaches_later key time row h = reaches_by (nat_cmp row.time time) (slice_cmp nat_cmp key row.key) h

reaches_own_by : (o r : Ordering) → r ≡ Equal → is_le o ≡ true → is_le (ordering_then r o) ≡ true
reaches_own_by o r e h = ap (λ s. is_le (ordering_then s o)) e ∙ h

pub reaches_own : (key : List ℕ) (time : ℕ) (row : Row) → row.key ≡ key → row.time ≤ time → reaches key time row ≡ true
reaches_own key time row same h =
    reaches_own_by (nat_cmp row.time time) (slice_cmp nat_cmp key row.key)
    (ap (slice_cmp nat_cmp key) same ∙ tied_itself nat_list_cmp_total key) (at_most_by row.time time _ refl h)

-- what stands behind a reached row is reached
on_by : (key : List ℕ) (time : ℕ) (row later : Row) → IsBefore key row.key ⊎ ((key ≡ row.key) × (row.time ≤ time)) → ComesBefore row later → reaches key time later ≡ true
on_by key time row later (inl before) p = reaches_later key time later (before_up_to key row.key later.key before (up_to_later row later p))
on_by key time row later (inr (same, low)) (inl before) = reaches_later key time later (subst (λ k. IsBefore k later.key) (sym same) before)
on_by key time row later (inr (same, low)) (inr (again, older)) = reaches_own key time later (sym again ∙ sym same) (omega arith)

reaches_on : (key : List ℕ) (time : ℕ) (row later : Row) → reaches key time row ≡ true → ComesBefore row later → reaches key time later ≡ true
reaches_on key time row later h p = on_by key time row later (reached key time row h) p

not_by : (b : Bool) → (b ≡ true → ⊥) → b ≡ false
not_by true f = absurd (f refl)
not_by false f = refl

-- ---- halving a run
pub record IsHalved (rows : List Row) (key : List ℕ) (time low high : ℕ) : Type 0 where
  pub within : high ≤ length rows
  pub ordered : low ≤ high
  pub before : AllByRecursion (λ row. reaches key time row ≡ false) (take low rows)
  pub behind : AllByRecursion (λ row. reaches key time row ≡ true) (drop high rows)

pub halved_none : (rows : List Row) (key : List ℕ) (time low high : ℕ) → low ≡ 0 → high ≡ length rows → IsHalved rows key time low high
halved_none rows key time low high none all = record {
  within = omega (arith, all);
  ordered = omega (arith, none);
  before = subst (λ n. AllByRecursion (λ row. reaches key time row ≡ false) (take n rows)) (sym none) tt;
  behind = subst (AllByRecursion (λ row. reaches key time row ≡ true)) (sym (drop_all high rows (omega (arith, all)))) tt;
}

pub halved_high : (rows : List Row) (key : List ℕ) (time low high middle : ℕ) → StandInOrder rows → IsHalved rows key time low high → low ≤ middle → middle < high
    → reaches key time (row_at rows middle) ≡ true → IsHalved rows key time low middle
halved_high rows key time low high middle order is over under h =
    let within : middle < length rows = let wide = is.within in omega (arith, under, wide) in
    let left = drop_at_row rows middle within in
    let stands : StandInOrder (row_at rows middle ∷ drop (middle + 1) rows) = subst StandInOrder left (drop_in_order rows middle order) in
    record {
      within = omega (arith, within);
      ordered = over;
      before = is.before;
      behind = subst (AllByRecursion (λ row. reaches key time row ≡ true)) (sym left) (
        h,
        each (λ row. reaches key time row ≡ true) (drop (middle + 1) rows)
            (λ later there. reaches_on key time (row_at rows middle) later h (of_each (ComesBefore (row_at rows middle)) (drop (middle + 1) rows) stands.0 later there)),
      );
    }

not_reached : (rows : List Row) (key : List ℕ) (time middle : ℕ) → StandInOrder rows → middle < length rows → reaches key time (row_at rows middle) ≡ false
    → (row : Row) → Has (take middle rows) row → reaches key time row ≡ false
not_reached rows key time middle order within h row there =
    let left = drop_at_row rows middle within in
    let parts : StandInOrder (take middle rows ++ row_at rows middle ∷ drop (middle + 1) rows) =
    subst (λ list. StandInOrder (take middle rows ++ list)) left (subst StandInOrder (sym (take-append-drop middle rows)) order) in
    let before = front_before (take middle rows) (row_at rows middle ∷ drop (middle + 1) rows) parts row (row_at rows middle) there (inl refl) in
    not_by (reaches key time row) (λ r. no_answer (sym h ∙ reaches_on key time row (row_at rows middle) r before))

pub halved_low : (rows : List Row) (key : List ℕ) (time low high middle next : ℕ) → StandInOrder rows → IsHalved rows key time low high → middle < high
    → reaches key time (row_at rows middle) ≡ false → next ≡ middle + 1 → IsHalved rows key time next high
halved_low rows key time low high middle next order is under h step =
    let within : middle < length rows = let wide = is.within in omega (arith, under, wide) in
    subst (λ n. IsHalved rows key time n high) (sym step) (record {
      within = is.within;
      ordered = omega (arith, under);
      before = subst (AllByRecursion (λ row. reaches key time row ≡ false)) (sym (take_at_row rows middle within))
          (all_of_both (λ row. reaches key time row ≡ false) (take middle rows) (row_at rows middle ∷ [])
          (each (λ row. reaches key time row ≡ false) (take middle rows) (not_reached rows key time middle order within h)) (h, tt));
      behind = is.behind;
    })

pub halved_all : (rows : List Row) (key : List ℕ) (time low high : ℕ) → IsHalved rows key time low high → high ≤ low → IsFirstFrom rows key time low
halved_all rows key time low high is done =
    let same : low ≡ high = let ordered = is.ordered in omega (arith, done, ordered) in
    record {
      within = let wide = is.within in omega (arith, same, wide);
      before = is.before;
      behind = subst (λ n. AllByRecursion (λ row. reaches key time row ≡ true) (drop n rows)) (sym same) is.behind;
    }

-- ---- the row that was found in a run
-- a row at the key stands behind the place
pub stands_behind : (rows : List Row) (key : List ℕ) (time index : ℕ) → IsFirstFrom rows key time index → (row : Row) → Has rows row → reaches key time row ≡ true → Has (drop index rows) row
stands_behind rows key time index is row there h =
    let In : List Row → Type 0 = λ list. Has list row in
    elim (in_one (take index rows) (drop index rows) row (subst In (sym (take-append-drop index rows)) there)) [
      | inl front ↦ no_answer (sym (of_each (λ r. reaches key time r ≡ false) (take index rows) is.before row front) ∙ h)
      | inr back ↦ back
    ]

at_behind : (rows : List Row) (key : List ℕ) (time index : ℕ) → IsFirstFrom rows key time index → (row : Row) → Has rows row → IsAt key time row → Has (drop index rows) row
at_behind rows key time index is row there at = stands_behind rows key time index is row there (reaches_own key time row at.key_is at.at_most)

pub found_past : (rows : List Row) (key : List ℕ) (time index : ℕ) → IsFirstFrom rows key time index → length rows ≤ index → IsFoundAt rows key time None
found_past rows key time index is past row there at =
    let In : List Row → Type 0 = λ list. Has list row in subst In (drop_all index rows past) (at_behind rows key time index is row there at)

abbrev IsBehind : List ℕ → ℕ → Row → Type 0
IsBehind key time row = IsBefore key row.key ⊎ ((key ≡ row.key) × (row.time ≤ time))

apart_by : (first row : Row) (key : List ℕ) (time : ℕ) → IsBehind key time first → first.key ≢ key → row.key ≡ key → (first ≡ row) ⊎ ComesBefore first row → ⊥
apart_by first row key time behind apart same (inl e) = apart (ap (λ r. r.key) e ∙ same)
apart_by first row key time (inr (own, low)) apart same (inr p) = apart (sym own)
apart_by first row key time (inl before) apart same (inr p) =
    not_before_itself key (subst (IsBefore key) same (before_up_to key first.key row.key before (up_to_later first row p)))

first_of : (rows : List Row) (index : ℕ) → StandInOrder rows → index < length rows → (row : Row) → Has (drop index rows) row
    → (row_at rows index ≡ row) ⊎ ComesBefore (row_at rows index) row
first_of rows index order within row there =
    let left = drop_at_row rows index within in
    let In : List Row → Type 0 = λ list. Has list row in
    first_or_later (row_at rows index) row (drop (index + 1) rows) (subst StandInOrder left (drop_in_order rows index order)) (subst In left there)

first_reached : (rows : List Row) (key : List ℕ) (time index : ℕ) → IsFirstFrom rows key time index → index < length rows → IsBehind key time (row_at rows index)
first_reached rows key time index is within =
    reached key time (row_at rows index) (subst (AllByRecursion (λ row. reaches key time row ≡ true)) (drop_at_row rows index within) is.behind).0

pub found_other : (rows : List Row) (key : List ℕ) (time index : ℕ) → StandInOrder rows → IsFirstFrom rows key time index → index < length rows → (row_at rows index).key ≢ key
    → IsFoundAt rows key time None
found_other rows key time index order is within apart row there at =
    apart_by (row_at rows index) row key time (first_reached rows key time index is within) apart at.key_is
    (first_of rows index order within row (at_behind rows key time index is row there at))

low_time : (first : Row) (key : List ℕ) (time : ℕ) → IsBehind key time first → first.key ≡ key → first.time ≤ time
low_time first key time (inl before) same = absurd (not_before_itself key (subst (IsBefore key) same before))
low_time first key time (inr (same, low)) again = low

newest : (first row : Row) → (first ≡ row) ⊎ ComesBefore first row → first.key ≡ row.key → row.time ≤ first.time
newest first row (inl e) same = let times : first.time ≡ row.time = ap (λ r. r.time) e in omega arith
newest first row (inr (inl before)) same = absurd (not_before_itself first.key (subst (IsBefore first.key) (sym same) before))
newest first row (inr (inr (again, later))) same = omega arith

pub found_own : (rows : List Row) (key : List ℕ) (time index : ℕ) → StandInOrder rows → IsFirstFrom rows key time index → index < length rows → (row_at rows index).key ≡ key
    → IsFoundAt rows key time (Some index)
found_own rows key time index order is within same =
    let In : List Row → Type 0 = λ list. Has list (row_at rows index) in (
      within,
      (
        has_dropped rows index (row_at rows index) (subst In (sym (drop_at_row rows index within)) (inl refl)),
        record { key_is = same; at_most = low_time (row_at rows index) key time (first_reached rows key time index is within) same },
        λ row there at. newest (row_at rows index) row (first_of rows index order within row (at_behind rows key time index is row there at)) (same ∙ sym at.key_is),
      ),
    )

-- ---- the newest of several runs
-- the runs from this one on have no row of the key
pub LackFrom : List (List Row) → List ℕ → ℕ → ℕ → Type 0
LackFrom runs key time left = (row : Row) → Has (all_of (drop left runs)) row → IsAt key time row → ⊥

pub lack_none : (runs : List (List Row)) (key : List ℕ) (time left : ℕ) → length runs ≤ left → LackFrom runs key time left
unfolding LackFrom
lack_none runs key time left past row there at =
    let In : List (List Row) → Type 0 = λ list. Has (all_of list) row in absurd (subst In (drop_all left runs past) there)

pub lack_more : (runs : List (List Row)) (key : List ℕ) (time left : ℕ) → left < length runs → LackFrom runs key time (left + 1) → IsFoundAt (run_at runs left) key time None
    → LackFrom runs key time left
unfolding LackFrom
lack_more runs key time left within later none row there at =
    let In : List (List Row) → Type 0 = λ list. Has (all_of list) row in
    elim (in_one (run_at runs left) (all_of (drop (left + 1) runs)) row (subst In (drop_more runs left [] within) there)) [
      | inl h ↦ none row h at
      | inr h ↦ later row h at
    ]

pub lack_all : (runs : List (List Row)) (key : List ℕ) (time left : ℕ) → AreRuns runs → left ≡ 0 → LackFrom runs key time left → IsLast (merged runs) key time None
unfolding LackFrom
lack_all runs key time left are none lack row there at =
    lack row (subst (λ n. Has (all_of (drop n runs)) row) (sym none) ((merged_has runs are row).0 there)) at

some_by : (runs : List (List Row)) (key : List ℕ) (time left : ℕ) (found : Row) → AreRuns runs → left < length runs → LackFrom runs key time (left + 1)
    → IsLast (run_at runs left) key time (Some found) → (row : Row) → Has (all_of (take left runs ++ run_at runs left ∷ drop (left + 1) runs)) row
    → ((one other : Row) → Has (all_of (take left runs)) one → Has (all_of (run_at runs left ∷ drop (left + 1) runs)) other → one.time < other.time)
    → IsAt key time row → row.time ≤ found.time
unfolding LackFrom
some_by runs key time left found are within lack last row there older at =
    elim ((all_of-append (take left runs) (run_at runs left ∷ drop (left + 1) runs) row).0 there) [
      | inl h ↦ let before = older row found h (in_run (run_at runs left) (all_of (drop (left + 1) runs)) found last.0) in omega (arith, before)
      | inr h ↦ (elim (in_one (run_at runs left) (all_of (drop (left + 1) runs)) row h) [
        | inl own ↦ last.2 row own at
        | inr later ↦ absurd (lack row later at)
      ])
    ]

pub found_newest : (runs : List (List Row)) (key : List ℕ) (time left : ℕ) (found : Row) → AreRuns runs → left < length runs → LackFrom runs key time (left + 1)
    → IsLast (run_at runs left) key time (Some found) → IsLast (merged runs) key time (Some found)
found_newest runs key time left found are within lack last =
    let parts : take left runs ++ run_at runs left ∷ drop (left + 1) runs ≡ runs = ap (λ list. take left runs ++ list) (sym (drop_more runs left [] within)) ∙ take-append-drop left runs in
    let Rise : List (List Row) → Type 0 = λ list. AreRuns list in
    let are_parts : AreRuns (take left runs ++ run_at runs left ∷ drop (left + 1) runs) = subst Rise (sym parts) are in
    let older = older_runs (take left runs) (run_at runs left ∷ drop (left + 1) runs) are_parts.1 in
    let In : Row → List (List Row) → Type 0 = λ row list. Has (all_of list) row in
    let there = (all_of-append (take left runs) (run_at runs left ∷ drop (left + 1) runs) found).1 (inr (in_run (run_at runs left) (all_of (drop (left + 1) runs)) found last.0)) in (
      (merged_has runs are found).1 (subst (In found) parts there),
      last.1,
      λ row stands at. some_by runs key time left found are within lack last row (subst (In row) (sym parts) ((merged_has runs are row).0 stands)) older at,
    )

-- ---- a run that was read
pub last_some : (runs : List (List Row)) (key : List ℕ) (time left next index : ℕ) (run : List Row) (found : Row) → AreRuns runs → left ≤ length runs → left ≡ next + 1
    → run ≡ get_or runs next run → LackFrom runs key time left → IsFoundAt run key time (Some index) → found ≡ row_at run index → IsLast (merged runs) key time (Some found)
last_some runs key time left next index run found are low step read lack is taken =
    let within : next < length runs = omega (arith, low, step) in
    let own = get_or_read runs next run within read [] in
    let last : IsLast run key time (Some found) = subst (λ r. IsLast run key time (Some r)) (sym taken) is.1 in
    found_newest runs key time next found are within (subst (LackFrom runs key time) step lack) (subst (λ r. IsLast r key time (Some found)) own last)

pub last_none : (runs : List (List Row)) (key : List ℕ) (time left next : ℕ) (run : List Row) → left ≤ length runs → left ≡ next + 1
    → run ≡ get_or runs next run → LackFrom runs key time left → IsFoundAt run key time None → (next ≤ length runs) × LackFrom runs key time next
last_none runs key time left next run low step read lack is =
    let within : next < length runs = omega (arith, low, step) in
    let own = get_or_read runs next run within read [] in
    (omega (arith, within), lack_more runs key time next within (subst (LackFrom runs key time) step lack) (subst (λ r. IsFoundAt r key time None) own is))
