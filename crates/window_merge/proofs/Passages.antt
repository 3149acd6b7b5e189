-- The keys that two chunks made one have passed.
use Rattle.std.proofs.Common.{◌≡◌, ◌≤◌, ℕ, List, length, refl, sym, ◌∙◌, subst, arith, inl, inr}
use Rattle.std.specs.Prelude.{◌⊎◌, Option, Some, None}
use Rattle.std.specs.List.{AllByRecursion}
use Rattle.base_core.specs.Lists.{Has}
use Rattle.fed_bytes.specs.declared.span.Span.{Span}
use Rattle.fed_bytes.specs.Keys.{IsBefore, IsUpTo, IsBeforeEnd, IsIn}
use Rattle.row_core.specs.declared.rows.Row.{Row}
use Rattle.row_core.specs.declared.rows.Chunk.{Chunk}
use Rattle.window_core.specs.Windows.{ArePassed, IsPassage}
use Rattle.row_core.proofs.Lists.{of_each, each}
use Rattle.window_core.proofs.Passage.{RisingKeys, rising_keys, keys_count}
use Rattle.window_merge.specs.Merging.{IsCutAt, IsJoin}
use Rattle.window_merge.proofs.Filling.{some_filled}
use Rattle.window_merge.proofs.Joins.{row_of, join_order, join_before}

-- the keys of a chunk, whose rows are of keys in the span and from a key on
pub record AreKeysIn (span : Span) (key : List ℕ) (most : ℕ) (chunk : Chunk) : Type 0 where
  pub rising : RisingKeys chunk.rows
  pub under : length rising.keys ≤ most
  pub from_key : (row : Row) → Has chunk.rows row → IsUpTo key row.key
  pub within : (row : Row) → Has chunk.rows row → IsIn span row.key
  pub before : (row : Row) → Has chunk.rows row → IsBeforeEnd row.key chunk.next

module _ (span : Span) (key : List ℕ) (most : ℕ) (chunk : Chunk) (are : AreKeysIn span key most chunk) where
  of_rows : (P : List ℕ → Type 0) → ((row : Row) → Has chunk.rows row → P row.key) → (k : List ℕ) → Has are.rising.keys k → P k
  of_rows P f k there = let (row, stands, is) = (are.rising.are k).0 there in subst P is (f row stands)

  has_rows : AllByRecursion (λ row. Has are.rising.keys row.key) chunk.rows
  has_rows = each (λ row. Has are.rising.keys row.key) chunk.rows (λ row there. (are.rising.are row.key).1 (row, there, refl))

  -- the keys of the rows alone
  own_passage : ArePassed most are.rising.keys chunk.next → IsPassage span key most chunk
  own_passage passed = record {
    keys = are.rising.keys;
    rise = are.rising.rise;
    from_key = each (IsUpTo key) are.rising.keys (of_rows (IsUpTo key) are.from_key);
    within = each (IsIn span) are.rising.keys (of_rows (IsIn span) are.within);
    rows = has_rows;
    passed = passed;
  }

  -- and with them keys that another chunk has passed up to the same key
  passage_by : (other : Chunk) → IsPassage span key most other → (next : Option (List ℕ)) → chunk.next ≡ next → other.next ≡ next → IsPassage span key most chunk
  passage_by other is None ends also = own_passage (subst (ArePassed most are.rising.keys) (sym ends) are.under)
  passage_by other is (Some next) ends also =
      let passed = subst (ArePassed most is.keys) also is.passed in
      let count = passed.0 in
      let (filled, f) = some_filled are.rising.keys is.keys most are.rising.rise is.rise are.under (omega (arith, count)) in
      let either = λ (P : List ℕ → Type 0) (one : (k : List ℕ) → Has are.rising.keys k → P k) (all : AllByRecursion P is.keys). each P filled (λ k there. elim (f.from k there) [ inl h ↦ one k h | inr h ↦ of_each P is.keys all k h ]) in
      record {
        keys = filled;
        rise = f.rise;
        from_key = either (IsUpTo key) (of_rows (IsUpTo key) are.from_key) is.from_key;
        within = either (IsIn span) (of_rows (IsIn span) are.within) is.within;
        rows = each (λ row. Has filled row.key) chunk.rows (λ row there. f.has row.key ((are.rising.are row.key).1 (row, there, refl)));
        passed = subst (ArePassed most filled) (sym ends)
            (f.long, either (λ k. IsBefore k next) (of_rows (λ k. IsBefore k next) (λ row there. subst (IsBeforeEnd row.key) ends (are.before row there))) passed.1);
      }

either_of : (span : Span) (key : List ℕ) (most : ℕ) (other : Chunk) (row : Row) → IsPassage span key most other → Has other.rows row → IsUpTo key row.key × IsIn span row.key
either_of span key most other row is there =
    let stands = of_each (λ (r : Row). Has is.keys r.key) other.rows is.rows row there in
    (of_each (IsUpTo key) is.keys is.from_key row.key stands, of_each (IsIn span) is.keys is.within row.key stands)

module _ (span : Span) (key : List ℕ) (most : ℕ) (older newer chunk : Chunk) (first : IsPassage span key most older) (second : IsPassage span key most newer) (join : IsJoin older newer most chunk) where
  in_both : (row : Row) → Has older.rows row ⊎ Has newer.rows row → IsUpTo key row.key × IsIn span row.key
  in_both row (inl there) = either_of span key most older row first there
  in_both row (inr there) = either_of span key most newer row second there

  rising : RisingKeys chunk.rows
  rising = rising_keys chunk.rows (join_order older newer chunk most join)

  count : length rising.keys ≡ join.cut.count
  unfolding rising
  count = keys_count chunk.rows join.cut.count (rising_keys chunk.rows (join_order older newer chunk most join)) join.cut.keys

  keys_in : length rising.keys ≤ most → AreKeysIn span key most chunk
  keys_in under = record {
    rising = rising;
    under = under;
    from_key = λ row there. (in_both row (row_of older newer chunk most row join there)).0;
    within = λ row there. (in_both row (row_of older newer chunk most row join there)).1;
    before = λ row there. join_before older newer chunk most row join there;
  }

  ends_by : (under : length rising.keys ≤ most) → chunk.next ≡ join.end → (join.end ≡ older.next) ⊎ (join.end ≡ newer.next) → IsPassage span key most chunk
  ends_by under is (inl e) = passage_by span key most chunk (keys_in under) older first older.next (is ∙ e) refl
  ends_by under is (inr e) = passage_by span key most chunk (keys_in under) newer second newer.next (is ∙ e) refl

  passed_by : IsCutAt join.end most join.cut.count chunk.next join.cut.rest → IsPassage span key most chunk
  unfolding rising keys_in
  passed_by (inl (at, is, begins, before, full)) =
      let long = count in
      let are = keys_in (omega (arith, full, long)) in
      own_passage span key most chunk are (subst (ArePassed most rising.keys) (sym is) (
        omega (arith, full, long),
        each (λ k. IsBefore k at) rising.keys (of_rows span key most chunk are (λ k. IsBefore k at) (λ row there. subst (IsBeforeEnd row.key) is (join_before older newer chunk most row join there))),
      ))
  passed_by (inr (is, under, past)) = let long = count in ends_by (omega (arith, under, long)) is join.earlier.is_one

  pub passage_join : IsPassage span key most chunk
  passage_join = passed_by join.cut.ends
