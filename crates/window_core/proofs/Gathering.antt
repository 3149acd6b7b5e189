-- A chunk as it is gathered, row by row.
use Rattle.std.proofs.Common.{◌≡◌, ◌↔◌, ◌+◌, ◌<◌, ◌≤◌, ℕ, List, [], ◌∷◌, ◌++◌, length, drop, set, get_or, true, refl, sym, ap, ◌∙◌, subst, arith, inl, inr}
use Rattle.std.specs.Prelude.{◌⊎◌, Option, Some, None}
use Rattle.std.specs.List.{filter}
use Rattle.std.proofs.lemmas.List.{length-set, get_or_read}
use Rattle.base_core.specs.Lists.{Has}
use Rattle.fed_bytes.specs.Keys.{IsBefore, IsUpTo}
use Rattle.fed_bytes.proofs.Orders.{before_up_to, up_to-itself, up_to-chain}
use Rattle.row_core.specs.declared.rows.Row.{Row}
use Rattle.row_core.specs.declared.rows.Chunk.{Chunk}
use Rattle.window_core.specs.Packed.{row_at}
use Rattle.window_core.specs.Gathering.{EndWith, IsLeftBy}
use Rattle.row_core.specs.Rows.{ComesBefore, StandInOrder, AreFrom, AreKeysOf, HaveKeys, BeginWith, EndsAt, IsChunk}
use Rattle.window_core.specs.Runs.{reaches, all_of, merged, run_at, number_at, AreRuns, IsLeftOf, IsLeast, IsLeastOf, ArePassedTo}
use Rattle.row_core.proofs.Lists.{of_each, in_front, behind, in_one}
use Rattle.row_core.proofs.Order.{before_is_up_to, not_before_itself, not_before_own, comes_before-chain, up_to_is, up_to_later, front_in_order, front_before, joined_in_order}
use Rattle.row_core.proofs.Filters.{kept, passes, filter_in_order}
use Rattle.window_core.proofs.Searching.{reached, reaches_later, reaches_own, stands_behind}
use Rattle.window_core.proofs.Arranging.{merged_has, arranged_in_order}
use Rattle.window_core.proofs.Merging.{has_dropped, has_at_index}
use Rattle.window_core.proofs.Choosing.{first_left, placed, run_in_all, left_before, left_after, before_after, left_count, left_less}

-- of the rows from a key on these are gathered, and the others are left; so many keys may still begin
pub record IsGathered (runs : List (List Row)) (key : List ℕ) (rows : List Row) (passed : List ℕ) (left most : ℕ) : Type 0 where
  pub count : ℕ
  pub long : length passed ≡ length runs
  pub in_order : StandInOrder rows
  pub before : (row later : Row) → Has rows row → IsLeftOf runs passed (length runs) later → ComesBefore row later
  pub are : (row : Row) → ((Has rows row ⊎ IsLeftOf runs passed (length runs) row) ↔ (Has (all_of runs) row × IsUpTo key row.key))
  pub keys : HaveKeys rows count
  pub sum : count + left ≡ most

-- ---- the rows from the key on
from_by : (key : List ℕ) (time : ℕ) (row : Row) → IsBefore key row.key ⊎ ((key ≡ row.key) × (row.time ≤ time)) → IsUpTo key row.key
from_by key time row (inl before) = before_is_up_to key row.key before
from_by key time row (inr (same, low)) = subst (IsUpTo key) same (up_to-itself key)

on_by : (key : List ℕ) (time : ℕ) (row : Row) → row.time ≤ time → IsBefore key row.key ⊎ (key ≡ row.key) → reaches key time row ≡ true
on_by key time row low (inl before) = reaches_later key time row before
on_by key time row low (inr same) = reaches_own key time row (sym same) low

pub gathered_none : (runs : List (List Row)) (key : List ℕ) (time : ℕ) (rows : List Row) (passed : List ℕ) (most : ℕ) → ((row : Row) → Has (all_of runs) row → row.time ≤ time)
    → ArePassedTo runs key time passed → rows ≡ [] → IsGathered runs key rows passed most most
gathered_none runs key time rows passed most times are none = subst (λ list. IsGathered runs key list passed most most) (sym none) (record {
  count = 0;
  long = are.count;
  in_order = tt;
  before = λ row later there. absurd there;
  are = λ row. (
    elim [
      | inl there ↦ absurd there
      | inr (index, within, left) ↦ (
        run_in_all runs index row within (has_dropped (run_at runs index) (number_at passed index) row left),
        from_by key time row (reached key time row (of_each (λ r. reaches key time r ≡ true) (drop (number_at passed index) (run_at runs index)) (are.each index within).behind row left)),
      )
    ],
    λ (there, up_to).
        let (index, within, stands) = placed runs row there in
        inr (
          index,
          within,
          stands_behind (run_at runs index) key time (number_at passed index) (are.each index within) row stands
              (on_by key time row (times row there) (up_to_is key row.key up_to)),
        ),
  );
  keys = ([], (tt, λ k. (λ h. absurd h, λ (row, there, is). absurd there)), refl);
  sum = omega arith;
})

-- ---- a row of the key that the rows end with
last_stands : (rows : List Row) (key : List ℕ) → EndWith rows key → (last : Row) × Has rows last × (last.key ≡ key)
last_stands rows key (front, last, whole, is) =
    let Stands : List Row → Type 0 = λ list. Has list last in (last, subst Stands (sym whole) (behind front (last ∷ []) last (inl refl)), is)

only_one : (row other : Row) → Has (row ∷ []) other → row ≡ other
only_one row other (inl e) = e
only_one row other (inr h) = absurd h

abbrev Bears : List Row → List ℕ → Type 0
Bears rows key = (row : Row) × Has rows row × (row.key ≡ key)

bears_more : (rows : List Row) (row : Row) (key : List ℕ) → Bears rows key → Bears (rows ++ row ∷ []) key
bears_more rows row key (one, there, is) = (one, in_front rows (row ∷ []) one there, is)

bears_by : (rows : List Row) (row one : Row) (key : List ℕ) → Has rows one ⊎ Has (row ∷ []) one → one.key ≡ key → Bears rows key ⊎ (row.key ≡ key)
bears_by rows row one key (inl there) is = inl (one, there, is)
bears_by rows row one key (inr there) is = let same = only_one row one there in inr (ap (λ r. r.key) same ∙ is)

bears_one : (rows : List Row) (row : Row) (key : List ℕ) → Bears (rows ++ row ∷ []) key → Bears rows key ⊎ (row.key ≡ key)
bears_one rows row key (one, there, is) = bears_by rows row one key (in_one rows (row ∷ []) one there) is

same_by : (rows : List Row) (row : Row) (keys : List (List ℕ)) → AreKeysOf rows keys → EndWith rows row.key → (key : List ℕ) → Bears rows key ⊎ (row.key ≡ key) → Has keys key
same_by rows row keys are ends key (inl bears) = (are.1 key).1 bears
same_by rows row keys are ends key (inr e) = subst (Has keys) e ((are.1 row.key).1 (last_stands rows row.key ends))

same_keys : (rows : List Row) (row : Row) (count : ℕ) → HaveKeys rows count → EndWith rows row.key → HaveKeys (rows ++ row ∷ []) count
same_keys rows row count (keys, are, long) ends = (
  keys,
  (are.0, λ key. (λ there. bears_more rows row key ((are.1 key).0 there), λ bears. same_by rows row keys are ends key (bears_one rows row key bears))),
  long,
)

-- ---- a row of a new key
next_keys : (rows : List Row) (row : Row) (keys : List (List ℕ)) → AreKeysOf rows keys → (key : List ℕ) → Has (row.key ∷ keys) key → Bears (rows ++ row ∷ []) key
next_keys rows row keys are key (inl e) = (row, behind rows (row ∷ []) row (inl refl), e)
next_keys rows row keys are key (inr there) = bears_more rows row key ((are.1 key).0 there)

next_by : (rows : List Row) (row : Row) (keys : List (List ℕ)) → AreKeysOf rows keys → (key : List ℕ) → Bears rows key ⊎ (row.key ≡ key) → Has (row.key ∷ keys) key
next_by rows row keys are key (inl bears) = inr ((are.1 key).1 bears)
next_by rows row keys are key (inr e) = inl e

new_keys : (rows : List Row) (row : Row) (count : ℕ) → HaveKeys rows count → (Bears rows row.key → ⊥) → HaveKeys (rows ++ row ∷ []) (count + 1)
new_keys rows row count (keys, are, long) fresh = (
  row.key ∷ keys,
  ((λ there. fresh ((are.1 row.key).0 there), are.0), λ key. (next_keys rows row keys are key, λ bears. next_by rows row keys are key (bears_one rows row key bears))),
  omega arith,
)

-- ---- in rows in order, rows of one key stand together
EndsSome : {A : Type 0} → List A → Type 0
EndsSome {A} xs = (front : List A) × (last : A) × (xs ≡ front ++ last ∷ [])

onto_front : {A : Type 0} (x : A) (xs : List A) → (xs ≡ []) ⊎ EndsSome xs → EndsSome (x ∷ xs)
unfolding EndsSome
onto_front x xs (inl e) = ([], x, ap (λ list. x ∷ list) e)
onto_front x xs (inr (front, last, is)) = (x ∷ front, last, ap (λ list. x ∷ list) is)

by_end : {A : Type 0} (xs : List A) → (xs ≡ []) ⊎ EndsSome xs
by_end [] = inl refl
by_end (x ∷ xs) = inr (onto_front x xs (by_end xs))

-- the last row, between one of the key and a row of the key, has the key
between_same : (last row : Row) → IsUpTo row.key last.key → IsBefore last.key row.key ⊎ (last.key ≡ row.key) → last.key ≡ row.key
between_same last row low (inl before) = absurd (not_before_itself last.key (before_up_to last.key row.key last.key before low))
between_same last row low (inr same) = same

up_to_last : (front : List Row) (one last : Row) → StandInOrder (front ++ last ∷ []) → Has front one ⊎ Has (last ∷ []) one → IsUpTo one.key last.key
up_to_last front one last order (inl there) = up_to_later one last (front_before front (last ∷ []) order one last there (inl refl))
up_to_last front one last order (inr there) = let same = only_one last one there in subst (λ r. IsUpTo r.key last.key) same (up_to-itself last.key)

ends_by : (rows : List Row) (row : Row) → StandInOrder (rows ++ row ∷ []) → Bears rows row.key → (rows ≡ []) ⊎ EndsSome rows → EndWith rows row.key
unfolding EndsSome
ends_by rows row order (one, there, is) (inl empty) = let Stands : List Row → Type 0 = λ list. Has list one in absurd (subst Stands empty there)
ends_by rows row order (one, there, is) (inr (front, last, whole)) =
    let Stands : List Row → Type 0 = λ list. Has list one in
    let low = up_to_last front one last (subst StandInOrder whole (front_in_order rows (row ∷ []) order)) (in_one front (last ∷ []) one (subst Stands whole there)) in
    let Last : List Row → Type 0 = λ list. Has list last in
    let stands = subst Last (sym whole) (behind front (last ∷ []) last (inl refl)) in
    let high = up_to_is last.key row.key (up_to_later last row (front_before rows (row ∷ []) order last row stands (inl refl))) in
    (front, last, whole, between_same last row (subst (λ key. IsUpTo key last.key) is low) high)

ends_key : (rows : List Row) (row : Row) → StandInOrder (rows ++ row ∷ []) → Bears rows row.key → EndWith rows row.key
ends_key rows row order bears = ends_by rows row order bears (by_end rows)

-- ---- one more row
more_in_order : (runs : List (List Row)) (key : List ℕ) (rows : List Row) (passed : List ℕ) (left most index : ℕ) → IsGathered runs key rows passed left most
    → IsLeastOf runs passed (length runs) index → StandInOrder (rows ++ first_left runs passed index ∷ [])
more_in_order runs key rows passed left most index is least =
    joined_in_order rows (first_left runs passed index ∷ []) is.in_order (tt, tt)
    (λ one other there later. is.before one other there
    (subst (IsLeftOf runs passed (length runs)) (only_one (first_left runs passed index) other later) (index, least.there, has_at_index (run_at runs index) (number_at passed index) least.left)))

pub record IsCounted (rows : List Row) (left most : ℕ) : Type 0 where
  pub count : ℕ
  pub keys : HaveKeys rows count
  pub sum : count + left ≡ most

counted_by : (rows : List Row) (row : Row) (count left others most : ℕ) → StandInOrder (rows ++ row ∷ []) → HaveKeys rows count → count + left ≡ most
    → (EndWith rows row.key × (others ≡ left)) ⊎ ((EndWith rows row.key → ⊥) × (others + 1 ≡ left)) → IsCounted (rows ++ row ∷ []) others most
counted_by rows row count left others most order keys sum (inl (ends, same)) = record { count = count; keys = same_keys rows row count keys ends; sum = omega (arith, sum, same) }
counted_by rows row count left others most order keys sum (inr (fresh, less)) =
    record { count = count + 1; keys = new_keys rows row count keys (λ bears. fresh (ends_key rows row order bears)); sum = omega (arith, sum, less) }

pub gathered_more : (runs : List (List Row)) (key : List ℕ) (rows : List Row) (passed : List ℕ) (left others most index : ℕ) → AreRuns runs
    → IsGathered runs key rows passed left most → IsLeastOf runs passed (length runs) index → IsLeftBy rows (first_left runs passed index).key left (Some others)
    → IsGathered runs key (rows ++ first_left runs passed index ∷ []) (set passed index (number_at passed index + 1)) others most
gathered_more runs key rows passed left others most index are is least step =
    let row = first_left runs passed index in
    let stands : index < length passed = let there = least.there in let long = is.long in omega (arith, there, long) in
    let own : IsLeftOf runs passed (length runs) row = (index, least.there, has_at_index (run_at runs index) (number_at passed index) least.left) in
    let counted = counted_by rows row is.count left others most (more_in_order runs key rows passed left most index is least) is.keys is.sum step in
    record {
      count = counted.count;
      long = length-set passed index (number_at passed index + 1) ∙ is.long;
      in_order = more_in_order runs key rows passed left most index is least;
      before = λ one later there after. elim (in_one rows (row ∷ []) one there) [
        | inl h ↦ is.before one later h (left_before runs passed index later stands least.there least.left after)
        | inr h ↦ subst (λ r. ComesBefore r later) (only_one row one h) (before_after runs passed index later are stands least.there least after)
      ];
      are = λ other. (
        elim [
          | inl there ↦ (elim (in_one rows (row ∷ []) other there) [
            | inl h ↦ (is.are other).0 (inl h)
            | inr h ↦ (is.are other).0 (inr (subst (IsLeftOf runs passed (length runs)) (only_one row other h) own))
          ])
          | inr after ↦ (is.are other).0 (inr (left_before runs passed index other stands least.there least.left after))
        ],
        λ there. elim ((is.are other).1 there) [
          | inl h ↦ inl (in_front rows (row ∷ []) other h)
          | inr h ↦ (elim (left_after runs passed index other stands least.there least.left h) [
            | inl e ↦ inl (behind rows (row ∷ []) other (inl e))
            | inr after ↦ inr after
          ])
        ],
      );
      keys = counted.keys;
      sum = counted.sum;
    }

pub gathered_step : (runs : List (List Row)) (key : List ℕ) (rows : List Row) (passed : List ℕ) (left others most index : ℕ) → AreRuns runs
    → IsGathered runs key rows passed left most → IsLeast runs passed (length runs) (Some index) → (seen : List Row) → seen ≡ rows
    → (own : List ℕ) → own ≡ (first_left runs passed index).key → IsLeftBy seen own left (Some others)
    → (row : Row) → row ≡ first_left runs passed index → (made : List Row) → made ≡ rows ++ row ∷ [] → (after : List ℕ) → after ≡ set passed index (number_at passed index + 1)
    → IsGathered runs key made after others most
gathered_step runs key rows passed left others most index are is least seen same own named step row taken made more after put =
    let by_rows = subst (λ list. IsLeftBy list own left (Some others)) same step in
    let by_key = subst (λ k. IsLeftBy rows k left (Some others)) named by_rows in
    let result = gathered_more runs key rows passed left others most index are is least by_key in
    subst (λ list. IsGathered runs key list after others most) (sym (more ∙ ap (λ r. rows ++ r ∷ []) taken))
    (subst (λ list. IsGathered runs key (rows ++ first_left runs passed index ∷ []) list others most) (sym put) result)

-- ---- a chunk that is done
-- no row is left
all_by : (runs : List (List Row)) (key : List ℕ) (most : ℕ) (rows : List Row) (passed : List ℕ) (left : ℕ) → AreRuns runs → IsGathered runs key rows passed left most
    → ((row : Row) → IsLeftOf runs passed (length runs) row → ⊥) → AreFrom (merged runs) key (rows ++ [])
all_by runs key most rows passed left are is none = (
  joined_in_order rows [] is.in_order tt (λ one other there later. absurd later),
  λ row. (
    λ there. elim (in_one rows [] row there) [
      | inl h ↦ (let stands = (is.are row).0 (inl h) in ((merged_has runs are row).1 stands.0, stands.1))
      | inr h ↦ absurd h
    ],
    λ (there, up_to). elim ((is.are row).1 ((merged_has runs are row).0 there, up_to)) [ inl h ↦ in_front rows [] row h | inr h ↦ absurd (none row h) ],
  ),
)

pub chunk_all : (runs : List (List Row)) (key : List ℕ) (most : ℕ) (rows : List Row) (passed : List ℕ) (left : ℕ) → AreRuns runs → IsGathered runs key rows passed left most
    → IsLeast runs passed (length runs) None → (chunk : Chunk) → chunk.rows ≡ rows → chunk.next ≡ None → IsChunk (merged runs) key most chunk
chunk_all runs key most rows passed left are is none chunk has next =
    let Ends : Option (List ℕ) → List Row → Type 0 = λ n list. EndsAt n most is.count list [] in
    let ends : Ends None rows = (refl, let sum = is.sum in omega (arith, sum)) in
    record {
      rest = [];
      count = is.count;
      from = subst (λ list. AreFrom (merged runs) key (list ++ [])) (sym has) (all_by runs key most rows passed left are is none);
      keys = subst (λ list. HaveKeys list is.count) (sym has) is.keys;
      ends = subst (λ n. Ends n chunk.rows) (sym next) (subst (Ends None) (sym has) ends);
    }

-- the rows from a row on
abbrev rest_from : List (List Row) → Row → List Row
rest_from runs row = filter (reaches row.key row.time) (merged runs)

reaches_from : (row later : Row) → (row ≡ later) ⊎ ComesBefore row later → reaches row.key row.time later ≡ true
reaches_from row later (inl e) = subst (λ r. reaches row.key row.time r ≡ true) e (reaches_own row.key row.time row refl (omega arith))
reaches_from row later (inr (inl before)) = reaches_later row.key row.time later before
reaches_from row later (inr (inr (same, older))) = reaches_own row.key row.time later (sym same) (omega (arith, older))

from_reached : (row later : Row) → IsBefore row.key later.key ⊎ ((row.key ≡ later.key) × (later.time ≤ row.time)) → IsUpTo row.key later.key
from_reached row later h = from_by row.key row.time later h

-- a row before `row` isn't reached from there
not_reached : (row earlier : Row) → ComesBefore earlier row → IsBefore row.key earlier.key ⊎ ((row.key ≡ earlier.key) × (earlier.time ≤ row.time)) → ⊥
not_reached row earlier p (inl before) = not_before_itself row.key (before_up_to row.key earlier.key row.key before (up_to_later earlier row p))
not_reached row earlier (inl before) (inr (same, low)) = not_before_itself earlier.key (subst (IsBefore earlier.key) same before)
not_reached row earlier (inr (again, later)) (inr (same, low)) = absurd (omega (arith, later, low))

rest_left : (runs : List (List Row)) (key : List ℕ) (most : ℕ) (rows : List Row) (passed : List ℕ) (left index : ℕ) → AreRuns runs → IsGathered runs key rows passed left most
    → IsLeastOf runs passed (length runs) index → (later : Row) → Has (rest_from runs (first_left runs passed index)) later → IsLeftOf runs passed (length runs) later
rest_left runs key most rows passed left index are is least later there =
    let row = first_left runs passed index in
    let own : IsLeftOf runs passed (length runs) row = (index, least.there, has_at_index (run_at runs index) (number_at passed index) least.left) in
    let (stands, h) = passes (reaches row.key row.time) (merged runs) later there in
    let after = reached row.key row.time later h in
    let low = ((is.are row).0 (inr own)).1 in
    elim ((is.are later).1 ((merged_has runs are later).0 stands, up_to-chain key row.key later.key low (from_reached row later after))) [
      | inl gathered ↦ absurd (not_reached row later (is.before later row gathered own) after)
      | inr h ↦ h
    ]

full_by : (runs : List (List Row)) (key : List ℕ) (most : ℕ) (rows : List Row) (passed : List ℕ) (left index : ℕ) → AreRuns runs → IsGathered runs key rows passed left most
    → IsLeastOf runs passed (length runs) index → AreFrom (merged runs) key (rows ++ rest_from runs (first_left runs passed index))
full_by runs key most rows passed left index are is least =
    let row = first_left runs passed index in
    let rest = rest_from runs row in (
      joined_in_order rows rest is.in_order (filter_in_order (reaches row.key row.time) (merged runs) (arranged_in_order (all_of runs)))
          (λ one other there later. is.before one other there (rest_left runs key most rows passed left index are is least other later)),
      λ other. (
        λ there. elim (in_one rows rest other there) [
          | inl h ↦ (let stands = (is.are other).0 (inl h) in ((merged_has runs are other).1 stands.0, stands.1))
          | inr h ↦ (let stands = (is.are other).0 (inr (rest_left runs key most rows passed left index are is least other h)) in ((merged_has runs are other).1 stands.0, stands.1))
        ],
        λ (there, up_to). elim ((is.are other).1 ((merged_has runs are other).0 there, up_to)) [
          | inl h ↦ in_front rows rest other h
          | inr h ↦ behind rows rest other (kept (reaches row.key row.time) (merged runs) other there (reaches_from row other (least.least other h)))
        ],
      ),
    )

begin_by : (row first : Row) (others : List Row) → StandInOrder (first ∷ others) → (row ≡ first) ⊎ ComesBefore row first → (first ≡ row) ⊎ Has others row → first.key ≡ row.key
begin_by row first others order (inl e) there = ap (λ r. r.key) (sym e)
begin_by row first others order (inr p) (inl e) = ap (λ r. r.key) e
begin_by row first others order (inr p) (inr h) = absurd (not_before_own row (comes_before-chain row first row p (of_each (ComesBefore first) others order.0 row h)))

begins : (row : Row) (rest : List Row) → StandInOrder rest → Has rest row → ((later : Row) → Has rest later → (row ≡ later) ⊎ ComesBefore row later) → BeginWith row.key rest
begins row [] order there f = absurd there
begins row (first ∷ others) order there f = begin_by row first others order (f first (inl refl)) there

rest_begins : (runs : List (List Row)) (key : List ℕ) (most : ℕ) (rows : List Row) (passed : List ℕ) (left index : ℕ) → AreRuns runs → IsGathered runs key rows passed left most
    → IsLeastOf runs passed (length runs) index → BeginWith (first_left runs passed index).key (rest_from runs (first_left runs passed index))
rest_begins runs key most rows passed left index are is least =
    let row = first_left runs passed index in
    let own : IsLeftOf runs passed (length runs) row = (index, least.there, has_at_index (run_at runs index) (number_at passed index) least.left) in
    let there = (merged_has runs are row).1 ((is.are row).0 (inr own)).0 in
    begins row (rest_from runs row) (filter_in_order (reaches row.key row.time) (merged runs) (arranged_in_order (all_of runs)))
    (kept (reaches row.key row.time) (merged runs) row there (reaches_from row row (inl refl)))
    (λ later h. least.least later (rest_left runs key most rows passed left index are is least later h))

pub chunk_full : (runs : List (List Row)) (key : List ℕ) (most : ℕ) (rows : List Row) (passed : List ℕ) (left index : ℕ) → AreRuns runs → IsGathered runs key rows passed left most
    → IsLeast runs passed (length runs) (Some index) → (seen : List Row) → seen ≡ rows → (own : List ℕ) → own ≡ (first_left runs passed index).key → IsLeftBy seen own left None
    → (chunk : Chunk) → chunk.rows ≡ rows → (next : List ℕ) → next ≡ (first_left runs passed index).key → chunk.next ≡ Some next → IsChunk (merged runs) key most chunk
chunk_full runs key most rows passed left index are is least seen same own named full chunk has next told follows =
    let row = first_left runs passed index in
    let by_rows = subst (λ list. IsLeftBy list own left None) same full in
    let done : IsLeftBy rows row.key left None = subst (λ k. IsLeftBy rows k left None) named by_rows in
    let rest = rest_from runs row in
    let Ends : Option (List ℕ) → List Row → Type 0 = λ n list. EndsAt n most is.count list rest in
    let ends : Ends (Some row.key) rows = (
      rest_begins runs key most rows passed left index are is least,
      let sum = is.sum in let zero = done.1 in omega (arith, sum, zero),
      λ one there e. done.0 (ends_key rows row (more_in_order runs key rows passed left most index is least) (one, there, e)),
    ) in
    record {
      rest = rest;
      count = is.count;
      from = subst (λ list. AreFrom (merged runs) key (list ++ rest)) (sym has) (full_by runs key most rows passed left index are is least);
      keys = subst (λ list. HaveKeys list is.count) (sym has) is.keys;
      ends = subst (λ n. Ends n chunk.rows) (sym (follows ∙ ap Some told)) (subst (Ends (Some row.key)) (sym has) ends);
    }

-- ---- what was read of the runs
first_read : (runs : List (List Row)) (passed : List ℕ) (index at : ℕ) (run : List Row) → index < length runs → index < length passed → at ≡ get_or passed index at → run ≡ get_or runs index run
    → row_at run at ≡ first_left runs passed index
first_read runs passed index at run within stands number read =
    let run_is = get_or_read runs index run within read [] in
    let at_is = get_or_read passed index at stands number 0 in
    (λ i. row_at (run_is i) (at_is i))

stands_by : (runs : List (List Row)) (key : List ℕ) (rows : List Row) (passed : List ℕ) (left most index : ℕ) → IsGathered runs key rows passed left most → index < length runs → index < length passed
stands_by runs key rows passed left most index is there = let long = is.long in omega (arith, there, long)

least_seen : (runs : List (List Row)) (passed seen : List ℕ) (found : Option ℕ) → seen ≡ passed → IsLeast runs seen (length runs) found → IsLeast runs passed (length runs) found
least_seen runs passed seen found same is = subst (λ list. IsLeast runs list (length runs) found) same is

pub step_read : (runs : List (List Row)) (key : List ℕ) (rows : List Row) (passed seen : List ℕ) (left others most index at : ℕ) (run again : List Row) → AreRuns runs
    → IsGathered runs key rows passed left most → seen ≡ passed → IsLeast runs seen (length runs) (Some index) → at ≡ get_or passed index at → run ≡ get_or runs index run
    → again ≡ get_or runs index again → (shown : List Row) → shown ≡ rows → (own : List ℕ) → own ≡ (row_at run at).key → IsLeftBy shown own left (Some others)
    → (row : Row) → row ≡ row_at again at → (made : List Row) → made ≡ rows ++ row ∷ [] → IsGathered runs key made (set passed index (at + 1)) others most
step_read runs key rows passed seen left others most index at run again are is same found number read anew shown shows own named step row taken made more =
    let least = least_seen runs passed seen (Some index) same found in
    let stands = stands_by runs key rows passed left most index is least.there in
    gathered_step runs key rows passed left others most index are is least shown shows
    own (named ∙ ap (λ r. r.key) (first_read runs passed index at run least.there stands number read)) step
    row (taken ∙ first_read runs passed index at again least.there stands number anew) made more
    (set passed index (at + 1)) (ap (λ n. set passed index (n + 1)) (get_or_read passed index at stands number 0))

pub less_read : (runs : List (List Row)) (key : List ℕ) (rows : List Row) (passed seen : List ℕ) (left most index at : ℕ) → IsGathered runs key rows passed left most → seen ≡ passed
    → IsLeast runs seen (length runs) (Some index) → at ≡ get_or passed index at → left_count runs (set passed index (at + 1)) < left_count runs passed
less_read runs key rows passed seen left most index at is same found number =
    let least = least_seen runs passed seen (Some index) same found in
    let stands = stands_by runs key rows passed left most index is least.there in
    subst (λ n. left_count runs (set passed index (n + 1)) < left_count runs passed) (sym (get_or_read passed index at stands number 0)) (left_less runs passed index least.there stands least.left)

pub full_read : (runs : List (List Row)) (key : List ℕ) (most : ℕ) (rows : List Row) (passed seen : List ℕ) (left index at : ℕ) (run again : List Row) → AreRuns runs
    → IsGathered runs key rows passed left most → seen ≡ passed → IsLeast runs seen (length runs) (Some index) → at ≡ get_or passed index at → run ≡ get_or runs index run
    → again ≡ get_or runs index again → (shown : List Row) → shown ≡ rows → (own : List ℕ) → own ≡ (row_at run at).key → IsLeftBy shown own left None
    → (chunk : Chunk) → chunk.rows ≡ rows → (next : List ℕ) → next ≡ (row_at again at).key → chunk.next ≡ Some next → IsChunk (merged runs) key most chunk
full_read runs key most rows passed seen left index at run again are is same found number read anew shown shows own named full chunk has next told follows =
    let least = least_seen runs passed seen (Some index) same found in
    let stands = stands_by runs key rows passed left most index is least.there in
    chunk_full runs key most rows passed left index are is least shown shows
    own (named ∙ ap (λ r. r.key) (first_read runs passed index at run least.there stands number read)) full chunk has
    next (told ∙ ap (λ r. r.key) (first_read runs passed index at again least.there stands number anew)) follows

pub all_read : (runs : List (List Row)) (key : List ℕ) (most : ℕ) (rows : List Row) (passed seen : List ℕ) (left : ℕ) → AreRuns runs → IsGathered runs key rows passed left most
    → seen ≡ passed → IsLeast runs seen (length runs) None → (chunk : Chunk) → chunk.rows ≡ rows → chunk.next ≡ None → IsChunk (merged runs) key most chunk
all_read runs key most rows passed seen left are is same none chunk has next = chunk_all runs key most rows passed left are is (least_seen runs passed seen None same none) chunk has next
