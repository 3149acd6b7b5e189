-- Rows that are sorted by key, each key once.
use Rattle.std.proofs.Common.{◌≡◌, ℕ, Bool, true, false, cond, List, [], ◌∷◌, map, inl, inr, ◌↔◌, refl, sym, ◌∙◌, ap, subst}
use Rattle.std.specs.declared.cmp.Ordering.{Ordering}
use Rattle.std.specs.declared.cmp.Ordering.TheVariants.{Less}
use Rattle.std.specs.Ordering.{nat_cmp, is_lt, is_eq}
use Rattle.std.specs.Cmp.{IsTotalOrder, IsEquivalence}
use Rattle.std.specs.Cmp.Lexicographic.{slice_cmp, nat_list_cmp_total, nat_list_eq_equiv, texts_ties, bytes_decides}
use Rattle.std.specs.List.{All, AllByRecursion, Contains, dedup, dedup_from, IsDistinct}
use Rattle.std.specs.List.Sorted.{IsPermutation, IsSorted, IsStrictlySortedBy}
use Rattle.std.proofs.lemmas.Bool.{false≢true}
use Rattle.std.proofs.lemmas.List.Elements.{All-contains, All-contains_itself, All-weaker, All-cons, All-nil, recursion_from_All}
use Rattle.std.proofs.lemmas.List.Filters.{All-dedup}
use Rattle.std.proofs.lemmas.List.Kept.{Any-dedup, IsStrictlySortedBy-dedup}
use Rattle.std.proofs.lemmas.List.Sorted.{All-permutation, IsPermutation-sym}
use Rattle.std.proofs.lemmas.Map.Keys.{sorted_head, sorted_tail, IsDistinct-from_sorted, IsDistinct-head, IsDistinct-tail, IsDistinct-cons, IsDistinct-IsPermutation}
use Rattle.base_core.specs.Lists.{Has}
use Rattle.triple_keys.specs.declared.key.Ids.{Ids}
use Rattle.triple_keys.specs.declared.order.Order.{Order}
use Rattle.triple_keys.specs.declared.order.Order.TheVariants.{Spo}
use Rattle.triple_keys.specs.Keys.{key_bytes}
use Rattle.triple_keys.proofs.Spelling.{key_bytes-turned}
use Rattle.row_core.specs.declared.rows.Row.{Row}
use Rattle.row_core.specs.Rows.{ComesBefore, StandInOrder}
use Rattle.change_model.specs.declared.history.Kind.{Kind}
use Rattle.change_model.specs.IndexRows.{cell_of}
use Rattle.change_model.specs.EntryRows.{HaveOwnKeys, AreOrdered, key_cmp, statement_row}
use Rattle.change_model.proofs.Members.{each_of, Has-map, Has-from_map}
use Rattle.change_model.proofs.VocabularyTerms.{false_unless}

-- ---- two ways to say that something stands in a list

All-Has : {A : Type 0} (xs : List A) → All (Has xs) xs
All-Has [] = All-nil (Has [])
All-Has (x ∷ xs) = All-cons (Has (x ∷ xs)) x xs (inl refl) (All-weaker (Has xs) (Has (x ∷ xs)) (λ y h. inr h) xs (All-Has xs))

Has-from_Contains : {A : Type 0} (xs : List A) (x : A) → Contains xs x → Has xs x
Has-from_Contains xs x h = All-contains (Has xs) xs x (All-Has xs) h

Contains-from_Has : {A : Type 0} (xs : List A) (x : A) → Has xs x → Contains xs x
Contains-from_Has xs x h = each_of (Contains xs) xs x (recursion_from_All (Contains xs) xs (All-contains_itself xs)) h

each_has : {A : Type 0} (P : A → Type 0) (xs : List A) (x : A) → All P xs → Has xs x → P x
each_has P xs x all h = each_of P xs x (recursion_from_All P xs all) h

-- moved rows are the same rows
moved_has : {A : Type 0} (xs ys : List A) → IsPermutation xs ys → (x : A) → Has ys x → Has xs x
moved_has xs ys moved x h = each_has (Has xs) ys x (All-permutation (Has xs) xs ys moved (All-Has xs)) h

moved_same : {A : Type 0} (xs ys : List A) → IsPermutation xs ys → (x : A) → (Has ys x ↔ Has xs x)
moved_same xs ys moved x = (moved_has xs ys moved x, moved_has ys xs (IsPermutation-sym xs ys moved) x)

map_same : {A B : Type 0} (f : A → B) (xs ys : List A) → ((x : A) → Has xs x → Has ys x) → (y : B) → Has (map f xs) y → Has (map f ys) y
map_same f xs ys same y h = let from = Has-from_map f xs y h in subst (Has (map f ys)) from.2 (Has-map f ys from.0 (same from.0 from.1))

-- ---- what is ordered by keys

module _ {A : Type 0} (key : A → List ℕ) where
  abbrev pub by_key : A → A → Ordering
  by_key one other = slice_cmp nat_cmp (key one) (key other)

  abbrev pub one_key : A → A → Bool
  one_key one other = is_eq (by_key one other)

  total : IsTotalOrder by_key
  total = record {
    antisymm = λ x y. nat_list_cmp_total.antisymm (key x) (key y);
    trans = λ x y z. nat_list_cmp_total.trans (key x) (key y) (key z);
    congr = λ x y z. nat_list_cmp_total.congr (key x) (key y) (key z);
  }

  equiv : IsEquivalence one_key
  equiv = record {
    refl = λ x. sym (texts_ties (key x) (key x)) ∙ nat_list_eq_equiv.refl (key x);
    symm = λ x y. sym (texts_ties (key x) (key y)) ∙ nat_list_eq_equiv.symm (key x) (key y) ∙ texts_ties (key y) (key x);
    congr = λ x y z e. sym (texts_ties (key x) (key z)) ∙ nat_list_eq_equiv.congr (key x) (key y) (key z) (texts_ties (key x) (key y) ∙ e) ∙ texts_ties (key y) (key z);
  }

  pub keys_same : (x y : A) → one_key x y ≡ true → key x ≡ key y
  keys_same x y e = (bytes_decides (key x) (key y)).0 (texts_ties (key x) (key y) ∙ e)

  pub same_keys : (x y : A) → key x ≡ key y → one_key x y ≡ true
  same_keys x y e = sym (texts_ties (key x) (key y)) ∙ (bytes_decides (key x) (key y)).1 e

  -- what is strictly sorted gives rows in order
  rows_behind : (f : A → Row) → ((x : A) → (f x).key ≡ key x) → (x : A) (xs : List A) → AllByRecursion (λ y. by_key x y ≡ Less) xs → AllByRecursion (ComesBefore (f x)) (map f xs)
  rows_behind f keyed x [] less = tt
  rows_behind f keyed x (y ∷ xs) less =
      let before : slice_cmp nat_cmp (f x).key (f y).key ≡ Less = (λ i. slice_cmp nat_cmp (keyed x i) (keyed y i)) ∙ less.0 in
      (inl (ap is_lt before), rows_behind f keyed x xs less.1)

  strict_order : (f : A → Row) → ((x : A) → (f x).key ≡ key x) → (xs : List A) → IsStrictlySortedBy by_key xs → StandInOrder (map f xs)
  strict_order f keyed [] up = tt
  strict_order f keyed (x ∷ xs) up = (rows_behind f keyed x xs (sorted_head by_key x xs up), strict_order f keyed xs (sorted_tail by_key x xs up))

  -- a list whose keys differ loses nothing
  kept_from : (x : A) (xs : List A) → IsDistinct one_key (x ∷ xs) → dedup_from one_key x xs ≡ x ∷ xs
  kept_from x [] apart = refl
  kept_from x (y ∷ xs) apart =
      let other : one_key y x ≡ false = equiv.symm y x ∙ (IsDistinct-head one_key x (y ∷ xs) apart).0 in
      ap (λ b. cond b (dedup_from one_key x xs) (x ∷ dedup_from one_key y xs)) other ∙ ap (λ rest. x ∷ rest) (kept_from y xs (IsDistinct-tail one_key x (y ∷ xs) apart))

  kept : (xs : List A) → IsDistinct one_key xs → dedup one_key xs ≡ xs
  kept [] apart = refl
  kept (x ∷ xs) apart = kept_from x xs apart

  pub strictly : (xs : List A) → IsSorted by_key xs → IsDistinct one_key xs → IsStrictlySortedBy by_key xs
  strictly xs up apart = subst (IsStrictlySortedBy by_key) (kept xs apart) (IsStrictlySortedBy-dedup total (λ x y. refl) xs up)

  -- where those of one key give one row, no row is lost with a repeated key
  dedup_keeps : (f : A → Row) → ((x y : A) → key x ≡ key y → f x ≡ f y) → (xs : List A) (row : Row) → Has (map f xs) row → Has (map f (dedup one_key xs)) row
  dedup_keeps f agree xs row h =
      let from = Has-from_map f xs row h in
      let found = Any-dedup equiv xs from.0 (Contains-from_Has xs from.0 from.1) in
      let there : Has (dedup one_key xs) found.1 = Has-from_Contains (dedup one_key xs) found.1 (found.0, found.2, found.3) in
      let same : f found.1 ≡ row = sym (agree from.0 found.1 (keys_same from.0 found.1 found.4)) ∙ from.2 in
      subst (Has (map f (dedup one_key xs))) same (Has-map f (dedup one_key xs) found.1 there)

  dedup_has : (xs : List A) (x : A) → Has (dedup one_key xs) x → Has xs x
  dedup_has xs x h = each_has (Has xs) (dedup one_key xs) x (All-dedup one_key (Has xs) xs (All-Has xs)) h

-- ---- rows with keys of their own

no_such : (row : Row) (rows : List Row) → (Has (map (λ (r : Row). r.key) rows) row.key → ⊥) → AllByRecursion (λ other. one_key (λ (r : Row). r.key) row other ≡ false) rows
no_such row [] none = tt
no_such row (other ∷ rows) none = (
  false_unless (one_key (λ (r : Row). r.key) row other) (λ e. none (inl (sym (keys_same (λ (r : Row). r.key) row other e)))),
  no_such row rows (λ h. none (inr h)),
)

own_distinct : (rows : List Row) → HaveOwnKeys rows → IsDistinct (one_key (λ (r : Row). r.key)) rows
unfolding IsDistinct
own_distinct [] own = tt
own_distinct (row ∷ rows) own = IsDistinct-cons (one_key (λ (r : Row). r.key)) row rows (no_such row rows own.0) (own_distinct rows own.1)

map_itself : (rows : List Row) → map (λ row. row) rows ≡ rows
map_itself [] = refl
map_itself (row ∷ rows) = ap (λ rest. row ∷ rest) (map_itself rows)

-- rows that were sorted by key, one of each key
pub record AreOneOfEach (given sorted once made : List Row) : Type 0 where
  pub moved : IsPermutation given sorted
  pub up : IsSorted (by_key (λ (r : Row). r.key)) sorted
  pub once_is : once ≡ dedup (one_key (λ (r : Row). r.key)) sorted
  pub made_is : made ≡ once

made_each : (given sorted once made : List Row) → AreOneOfEach given sorted once made → made ≡ dedup (one_key (λ (r : Row). r.key)) sorted
made_each given sorted once made are = are.made_is ∙ are.once_is

pub each_order : (given sorted once made : List Row) → AreOneOfEach given sorted once made → StandInOrder made
each_order given sorted once made are =
    let key = λ (r : Row). r.key in
    let rows = dedup (one_key key) sorted in
    let strict = IsStrictlySortedBy-dedup (total key) (λ x y. refl) sorted are.up in
    subst StandInOrder (sym (made_each given sorted once made are)) (subst StandInOrder (map_itself rows) (strict_order key (λ row. row) (λ row. refl) rows strict))

pub each_kept : (given sorted once made : List Row) → AreOneOfEach given sorted once made → (row : Row) → Has made row → Has given row
each_kept given sorted once made are row h =
    moved_has given sorted are.moved row (dedup_has (λ (r : Row). r.key) sorted row (subst (λ (rs : List Row). Has rs row) (made_each given sorted once made are) h))

-- none is lost where each has a key of its own
pub each_ordered : (given sorted once made : List Row) → AreOneOfEach given sorted once made → HaveOwnKeys given → AreOrdered made given
each_ordered given sorted once made are own =
    let key = λ (r : Row). r.key in
    let apart : IsDistinct (one_key key) sorted = IsDistinct-IsPermutation (one_key key) (λ x y. (equiv key).symm x y) given sorted are.moved (own_distinct given own) in
    let all : made ≡ sorted = made_each given sorted once made are ∙ kept key sorted apart in
    record {
      order = each_order given sorted once made are;
      same = λ row. subst (λ (rs : List Row). Has rs row ↔ Has given row) (sym all) (moved_same given sorted are.moved row);
    }

-- ---- the rows of statements

-- rows of one key are one: they have one time and one cell
statement_agrees : (order turned : Order) (kind : Kind) (time : ℕ) (one other : Ids) → key_bytes order one ≡ key_bytes order other
    → statement_row turned kind time one ≡ statement_row turned kind time other
statement_agrees order turned kind time one other same = λ i. record { key = key_bytes-turned order turned one other same i; time = time; cell = cell_of kind }

-- ids that were sorted in the order of subjects, each once
pub record AreOnce (given once : List Ids) : Type 0 where
  pub sorted : List Ids
  pub moved : IsPermutation given sorted
  pub up : IsSorted (key_cmp Spo) sorted
  pub once_is : once ≡ dedup (one_key (key_bytes Spo)) sorted

once_strict : (given once : List Ids) → AreOnce given once → IsStrictlySortedBy (by_key (key_bytes Spo)) once
once_strict given once are =
    subst (IsStrictlySortedBy (by_key (key_bytes Spo))) (sym are.once_is) (IsStrictlySortedBy-dedup (total (key_bytes Spo)) (λ x y. refl) are.sorted are.up)

-- they give the rows of all
once_rows : (order : Order) (kind : Kind) (time : ℕ) (given once : List Ids) → AreOnce given once → (row : Row)
    → (Has (map (statement_row order kind time) once) row ↔ Has (map (statement_row order kind time) given) row)
once_rows order kind time given once are row =
    let f = statement_row order kind time in
    let key = key_bytes Spo in
    let all = dedup (one_key key) are.sorted in
    subst (λ (ids : List Ids). Has (map f ids) row ↔ Has (map f given) row) (sym are.once_is) (
      λ h. map_same f are.sorted given (moved_has given are.sorted are.moved) row (map_same f all are.sorted (dedup_has key are.sorted) row h),
      λ h. dedup_keeps key f (statement_agrees Spo order kind time) are.sorted row
          (map_same f given are.sorted (moved_has are.sorted given (IsPermutation-sym given are.sorted are.moved)) row h),
    )

pub first_rows : (kind : Kind) (time : ℕ) (given once : List Ids) (made : List Row) → AreOnce given once → made ≡ map (statement_row Spo kind time) once
    → AreOrdered made (map (statement_row Spo kind time) given)
first_rows kind time given once made are is = subst (λ (rs : List Row). AreOrdered rs (map (statement_row Spo kind time) given)) (sym is) (record {
  order = strict_order (key_bytes Spo) (statement_row Spo kind time) (λ ids. refl) once (once_strict given once are);
  same = once_rows Spo kind time given once are;
})

-- ids that differ in one order do so in each
turn_apart : (order turned : Order) (one other : Ids) → one_key (key_bytes order) one other ≡ false → one_key (key_bytes turned) one other ≡ false
turn_apart order turned one other apart =
    false_unless (one_key (key_bytes turned) one other)
    (λ e. false≢true (sym apart ∙ same_keys (key_bytes order) one other (key_bytes-turned turned order one other (keys_same (key_bytes turned) one other e))))

each_turned : (order turned : Order) (one : Ids) (ids : List Ids) → AllByRecursion (λ other. one_key (key_bytes order) one other ≡ false) ids
    → AllByRecursion (λ other. one_key (key_bytes turned) one other ≡ false) ids
each_turned order turned one [] apart = tt
each_turned order turned one (other ∷ ids) apart = (turn_apart order turned one other apart.0, each_turned order turned one ids apart.1)

distinct_turned : (order turned : Order) (ids : List Ids) → IsDistinct (one_key (key_bytes order)) ids → IsDistinct (one_key (key_bytes turned)) ids
unfolding IsDistinct
distinct_turned order turned [] apart = tt
distinct_turned order turned (one ∷ ids) apart =
    IsDistinct-cons (one_key (key_bytes turned)) one ids (each_turned order turned one ids (IsDistinct-head (one_key (key_bytes order)) one ids apart))
    (distinct_turned order turned ids (IsDistinct-tail (one_key (key_bytes order)) one ids apart))

-- and sorted in another order they give its rows
pub next_rows : (order : Order) (kind : Kind) (time : ℕ) (given once sorted : List Ids) (made : List Row) → AreOnce given once → IsPermutation once sorted → IsSorted (key_cmp order) sorted
    → made ≡ map (statement_row order kind time) sorted → AreOrdered made (map (statement_row order kind time) given)
next_rows order kind time given once sorted made are moved up is =
    let f = statement_row order kind time in
    let spo = one_key (key_bytes Spo) in
    let apart : IsDistinct spo sorted = IsDistinct-IsPermutation spo (λ x y. (equiv (key_bytes Spo)).symm x y) once sorted moved
    (IsDistinct-from_sorted (by_key (key_bytes Spo)) once (once_strict given once are)) in
    let strict = strictly (key_bytes order) sorted up (distinct_turned Spo order sorted apart) in
    subst (λ (rs : List Row). AreOrdered rs (map f given)) (sym is) (record {
      order = strict_order (key_bytes order) f (λ ids. refl) sorted strict;
      same = λ row. (
        λ h. (once_rows order kind time given once are row).0 (map_same f sorted once (moved_has once sorted moved) row h),
        λ h. map_same f once sorted (moved_has sorted once (IsPermutation-sym once sorted moved)) row ((once_rows order kind time given once are row).1 h),
      );
    })
