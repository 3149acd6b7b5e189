-- How many keys rows have.
use Rattle.std.proofs.Common.{◌≡◌, ◌+◌, ◌<◌, ◌≤◌, ℕ, List, [], ◌∷◌, ◌++◌, length, take, get_or, Bool, true, false, not, refl, sym, ap, ◌∙◌, subst, arith, inl, inr}
use Rattle.std.specs.Prelude.{◌⊎◌, Some, None}
use Rattle.base_core.specs.Lists.{Has}
use Rattle.fed_bytes.specs.Keys.{IsBefore, IsUpTo}
use Rattle.std.proofs.lemmas.List.{get_or_read}
use Rattle.fed_bytes.proofs.Orders.{no_answer, before_up_to, up_to-itself}
use Rattle.row_core.specs.declared.rows.Row.{Row}
use Rattle.row_core.specs.declared.rows.Cell.TheVariants.{Deleted}
use Rattle.window_core.specs.Packed.{row_at, row_with}
use Rattle.row_core.specs.Rows.{StandInOrder, AreKeysOf, HaveKeys}
use Rattle.row_core.proofs.Lists.{in_front, behind, in_one}
use Rattle.row_core.proofs.Order.{not_before_itself, up_to_is, up_to_later}
use Rattle.window_core.proofs.Merging.{take_at_row}
use Rattle.window_merge.specs.Merging.{IsLeftAt, AreOfKeys}
use Rattle.window_merge.specs.Values.{IsKeyOf}
use Rattle.window_merge.proofs.Ends.{front_up_to}

-- ---- one more row
pub only_one : (row other : Row) → Has (row ∷ []) other → row ≡ other
only_one row other (inl e) = e
only_one row other (inr h) = absurd h

more_of : (rows : List Row) (row : Row) (key : List ℕ) → IsKeyOf rows key → IsKeyOf (rows ++ row ∷ []) key
more_of rows row key (one, there, is) = (one, in_front rows (row ∷ []) one there, is)

one_by : (rows : List Row) (row one : Row) (key : List ℕ) → Has rows one ⊎ Has (row ∷ []) one → one.key ≡ key → IsKeyOf rows key ⊎ (row.key ≡ key)
one_by rows row one key (inl there) is = inl (one, there, is)
one_by rows row one key (inr there) is = let same = only_one row one there in inr (ap (λ r. r.key) same ∙ is)

one_of : (rows : List Row) (row : Row) (key : List ℕ) → IsKeyOf (rows ++ row ∷ []) key → IsKeyOf rows key ⊎ (row.key ≡ key)
one_of rows row key (one, there, is) = one_by rows row one key (in_one rows (row ∷ []) one there) is

same_by : (rows : List Row) (row : Row) (keys : List (List ℕ)) → AreKeysOf rows keys → IsKeyOf rows row.key → (key : List ℕ) → IsKeyOf rows key ⊎ (row.key ≡ key) → Has keys key
same_by rows row keys are stands key (inl there) = (are.1 key).1 there
same_by rows row keys are stands key (inr e) = subst (Has keys) e ((are.1 row.key).1 stands)

same_keys : (rows : List Row) (row : Row) (count : ℕ) → HaveKeys rows count → IsKeyOf rows row.key → HaveKeys (rows ++ row ∷ []) count
same_keys rows row count (keys, are, long) stands = (
  keys,
  (are.0, λ key. (λ there. more_of rows row key ((are.1 key).0 there), λ one. same_by rows row keys are stands key (one_of rows row key one))),
  long,
)

next_keys : (rows : List Row) (row : Row) (keys : List (List ℕ)) → AreKeysOf rows keys → (key : List ℕ) → Has (row.key ∷ keys) key → IsKeyOf (rows ++ row ∷ []) key
next_keys rows row keys are key (inl e) = (row, behind rows (row ∷ []) row (inl refl), e)
next_keys rows row keys are key (inr there) = more_of rows row key ((are.1 key).0 there)

next_by : (rows : List Row) (row : Row) (keys : List (List ℕ)) → AreKeysOf rows keys → (key : List ℕ) → IsKeyOf rows key ⊎ (row.key ≡ key) → Has (row.key ∷ keys) key
next_by rows row keys are key (inl there) = inr ((are.1 key).1 there)
next_by rows row keys are key (inr e) = inl e

new_keys : (rows : List Row) (row : Row) (count : ℕ) → HaveKeys rows count → (IsKeyOf rows row.key → ⊥) → HaveKeys (rows ++ row ∷ []) (count + 1)
new_keys rows row count (keys, are, long) fresh = (
  row.key ∷ keys,
  ((λ there. fresh ((are.1 row.key).0 there), are.0), λ key. (next_keys rows row keys are key, λ one. next_by rows row keys are key (one_of rows row key one))),
  omega arith,
)

-- ---- the rows before an index are counted
pub record AreCounted (rows : List Row) (most left count : ℕ) : Type 0 where
  pub within : count ≤ length rows
  pub different : ℕ
  pub keys : HaveKeys (take count rows) different
  pub sum : different + left ≡ most

no_keys : HaveKeys [] 0
no_keys = ([], (tt, λ key. (λ h. absurd h, λ (row, there, is). absurd there)), refl)

pub counted_none : (rows : List Row) (most left count : ℕ) → left ≡ most → count ≡ 0 → AreCounted rows most left count
counted_none rows most left count all none = record {
  within = omega (arith, none);
  different = 0;
  keys = subst (λ n. HaveKeys (take n rows) 0) (sym none) no_keys;
  sum = omega (arith, all);
}

counted_by : (rows : List Row) (most left others count : ℕ) → AreCounted rows most left count → count < length rows → IsLeftAt rows count left (Some others)
    → AreCounted rows most others (count + 1)
counted_by rows most left others count is within (inl (stands, same)) = record {
  within = omega (arith, within);
  different = is.different;
  keys = subst (λ list. HaveKeys list is.different) (sym (take_at_row rows count within)) (same_keys (take count rows) (row_at rows count) is.different is.keys stands);
  sum = let sum = is.sum in omega (arith, sum, same);
}
counted_by rows most left others count is within (inr (fresh, less)) = record {
  within = omega (arith, within);
  different = is.different + 1;
  keys = subst (λ list. HaveKeys list (is.different + 1)) (sym (take_at_row rows count within)) (new_keys (take count rows) (row_at rows count) is.different is.keys fresh);
  sum = let sum = is.sum in omega (arith, sum, less);
}

pub counted_more : (rows : List Row) (most left others count next : ℕ) → AreCounted rows most left count → count < length rows → IsLeftAt rows count left (Some others)
    → next ≡ count + 1 → AreCounted rows most others next
counted_more rows most left others count next is within step one = subst (AreCounted rows most others) (sym one) (counted_by rows most left others count is within step)

pub counted_full : (rows : List Row) (most left count : ℕ) → AreCounted rows most left count → IsLeftAt rows count left None → AreOfKeys rows most count
counted_full rows most left count is (fresh, none) = record {
  within = is.within;
  different = is.different;
  keys = is.keys;
  at_most = let sum = is.sum in omega (arith, sum);
  full = λ there. ((let sum = is.sum in omega (arith, sum, none)), fresh);
}

pub counted_all : (rows : List Row) (most left count : ℕ) → AreCounted rows most left count → length rows ≤ count → AreOfKeys rows most count
counted_all rows most left count is past = record {
  within = is.within;
  different = is.different;
  keys = is.keys;
  at_most = let sum = is.sum in omega (arith, sum);
  full = λ there. absurd (omega (arith, there, past));
}

-- ---- whether a row is the first of its key
has_last : (rows : List Row) (before index : ℕ) → index ≡ before + 1 → before < length rows → Has (take index rows) (row_at rows before)
has_last rows before index next within =
    let Stands : List Row → Type 0 = λ list. Has list (row_at rows before) in
    subst (λ n. Has (take n rows) (row_at rows before)) (sym next)
    (subst Stands (sym (take_at_row rows before within)) (behind (take before rows) (row_at rows before ∷ []) (row_at rows before) (inl refl)))

pub later_of_key : (rows : List Row) (before index : ℕ) (key : List ℕ) → index ≡ before + 1 → before < length rows → (row_at rows before).key ≡ key → IsKeyOf (take index rows) key
later_of_key rows before index key next within same = (row_at rows before, has_last rows before index next within, same)

up_to_last : (rows : List Row) (before : ℕ) (row : Row) → StandInOrder rows → before < length rows → Has (take before rows) row ⊎ Has (row_at rows before ∷ []) row
    → IsUpTo row.key (row_at rows before).key
up_to_last rows before row order within (inl there) = up_to_later row (row_at rows before) (front_up_to rows before order within row there)
up_to_last rows before row order within (inr there) = subst (λ r. IsUpTo r.key (row_at rows before).key) (only_one (row_at rows before) row there) (up_to-itself (row_at rows before).key)

first_by : (one key : List ℕ) → IsUpTo key one → IsBefore one key ⊎ (one ≡ key) → one ≡ key
first_by one key low (inl before) = absurd (not_before_itself one (before_up_to one key one before low))
first_by one key low (inr same) = same

pub first_of_key : (rows : List Row) (before index : ℕ) → StandInOrder rows → index ≡ before + 1 → index < length rows → ((row_at rows before).key ≡ (row_at rows index).key → ⊥)
    → IsKeyOf (take index rows) (row_at rows index).key → ⊥
first_of_key rows before index order next within apart (row, there, is) =
    let inside : before < length rows = omega (arith, next, within) in
    let Stands : List Row → Type 0 = λ list. Has list row in
    let parts = subst Stands (take_at_row rows before inside) (subst (λ n. Has (take n rows) row) next there) in
    let low = subst (λ key. IsUpTo key (row_at rows before).key) is (up_to_last rows before row order inside (in_one (take before rows) (row_at rows before ∷ []) row parts)) in
    let high = up_to_later (row_at rows before) (row_at rows index) (front_up_to rows index order within (row_at rows before) (has_last rows before index next inside)) in
    apart (first_by (row_at rows before).key (row_at rows index).key low (up_to_is (row_at rows before).key (row_at rows index).key high))

pub none_before : (rows : List Row) (index : ℕ) (key : List ℕ) → index ≡ 0 → IsKeyOf (take index rows) key → ⊥
none_before rows index key none (row, there, is) = subst (λ n. Has (take n rows) row) none there

-- ---- what was read
pub key_read : (rows : List Row) (index : ℕ) (read : Row) (key : List ℕ) → index < length rows → read ≡ get_or rows index read → key ≡ (get_or rows index read).key → key ≡ (row_at rows index).key
key_read rows index read key within is same = same ∙ ap (λ (r : Row). r.key) (sym is ∙ get_or_read rows index read within is (row_with [] 0 Deleted))

pub not_both : (b : Bool) → not b ≡ true → b ≡ true → ⊥
not_both true e f = no_answer e
not_both false e f = no_answer f

pub not_false : (b : Bool) → not b ≡ false → b ≡ true
not_false true e = refl
not_false false e = no_answer (sym e)
