-- The earlier of two ends, and rows parted at one.
use Rattle.std.proofs.Common.{◌≡◌, ◌+◌, ◌<◌, ◌≤◌, ℕ, List, [], ◌∷◌, ◌++◌, length, take, drop, Bool, true, false, not, refl, sym, ap, ◌∙◌, subst, arith, inl, inr}
use Rattle.std.specs.Prelude.{Option, Some, None}
use Rattle.std.specs.List.{AllByRecursion}
use Rattle.std.specs.Ordering.{is_lt, is_le, nat_cmp}
use Rattle.std.specs.Cmp.Lexicographic.{slice_cmp}
use Rattle.std.proofs.lemmas.List.{take-append-drop, drop_all}
use Rattle.base_core.specs.Lists.{Has}
use Rattle.fed_bytes.specs.Keys.{IsBefore, IsUpTo, IsBeforeEnd}
use Rattle.fed_bytes.proofs.Orders.{no_answer, turned, up_to-chain, up_to_before, before_up_to}
use Rattle.row_core.specs.declared.rows.Row.{Row}
use Rattle.window_core.specs.Packed.{row_at}
use Rattle.row_core.specs.Rows.{ComesBefore, StandInOrder}
use Rattle.row_core.proofs.Lists.{of_each, each, all_of_both}
use Rattle.row_core.proofs.Order.{before_is_up_to, up_to_later, front_before}
use Rattle.window_core.proofs.Merging.{drop_at_row, take_at_row, drop_in_order}
use Rattle.window_merge.specs.Merging.{IsEarlierEnd}
use Rattle.window_merge.specs.Parting.{IsPast, ArePartedAt}

not_false : (b : Bool) → not b ≡ false → b ≡ true
not_false true e = refl
not_false false e = no_answer (sym e)

-- what isn't before a key stands at it or behind
pub past_by : (a b : List ℕ) → is_lt (slice_cmp nat_cmp a b) ≡ false → IsUpTo b a
past_by a b e = not_false (is_le (slice_cmp nat_cmp b a)) (sym (turned a b) ∙ e)

-- what isn't up to a key stands behind it
pub behind_by : (a b : List ℕ) → is_le (slice_cmp nat_cmp a b) ≡ false → IsBefore b a
behind_by a b e = turned b a ∙ ap not e

-- ---- the earlier end
pub earlier_none : (other : Option (List ℕ)) → IsEarlierEnd None other other
earlier_none other = record { is_one = inr refl; both = λ key. (λ p. (tt, p), λ p. p.1) }

pub earlier_only : (one : Option (List ℕ)) → IsEarlierEnd one None one
earlier_only one = record { is_one = inl refl; both = λ key. (λ p. (p, tt), λ p. p.0) }

pub earlier_first : (a b : List ℕ) → is_le (slice_cmp nat_cmp a b) ≡ true → IsEarlierEnd (Some a) (Some b) (Some a)
earlier_first a b e = record { is_one = inl refl; both = λ key. (λ p. (p, before_up_to key a b p e), λ p. p.0) }

pub earlier_second : (a b : List ℕ) → is_le (slice_cmp nat_cmp a b) ≡ false → IsEarlierEnd (Some a) (Some b) (Some b)
earlier_second a b e =
    record { is_one = inr refl; both = λ key. (λ p. (before_up_to key b a p (before_is_up_to b a (behind_by a b e)), p), λ p. p.1) }

-- ---- parting rows at a key, by halves
pub record IsHalvedAt (rows : List Row) (key : List ℕ) (low high : ℕ) : Type 0 where
  pub within : high ≤ length rows
  pub ordered : low ≤ high
  pub before : AllByRecursion (λ row. IsBefore row.key key) (take low rows)
  pub behind : AllByRecursion (λ row. IsUpTo key row.key) (drop high rows)

pub halved_none : (rows : List Row) (key : List ℕ) (low high : ℕ) → low ≡ 0 → high ≡ length rows → IsHalvedAt rows key low high
halved_none rows key low high none all = record {
  within = omega (arith, all);
  ordered = omega (arith, none);
  before = subst (λ n. AllByRecursion (λ row. IsBefore row.key key) (take n rows)) (sym none) tt;
  behind = subst (AllByRecursion (λ row. IsUpTo key row.key)) (sym (drop_all high rows (omega (arith, all)))) tt;
}

-- a row in front of another has a key up to its own
pub front_up_to : (rows : List Row) (index : ℕ) → StandInOrder rows → index < length rows → (row : Row) → Has (take index rows) row → ComesBefore row (row_at rows index)
front_up_to rows index order within row there =
    let left = drop_at_row rows index within in
    let parts : StandInOrder (take index rows ++ row_at rows index ∷ drop (index + 1) rows) =
    subst (λ list. StandInOrder (take index rows ++ list)) left (subst StandInOrder (sym (take-append-drop index rows)) order) in
    front_before (take index rows) (row_at rows index ∷ drop (index + 1) rows) parts row (row_at rows index) there (inl refl)

pub halved_low : (rows : List Row) (key : List ℕ) (low high middle next : ℕ) → StandInOrder rows → IsHalvedAt rows key low high → middle < high
    → IsBefore (row_at rows middle).key key → next ≡ middle + 1 → IsHalvedAt rows key next high
halved_low rows key low high middle next order is under h step =
    let within : middle < length rows = let wide = is.within in omega (arith, under, wide) in
    subst (λ n. IsHalvedAt rows key n high) (sym step) (record {
      within = is.within;
      ordered = omega (arith, under);
      before = subst (AllByRecursion (λ row. IsBefore row.key key)) (sym (take_at_row rows middle within))
          (all_of_both (λ row. IsBefore row.key key) (take middle rows) (row_at rows middle ∷ [])
          (each (λ row. IsBefore row.key key) (take middle rows)
          (λ row there. up_to_before row.key (row_at rows middle).key key (up_to_later row (row_at rows middle) (front_up_to rows middle order within row there)) h)) (h, tt));
      behind = is.behind;
    })

pub halved_high : (rows : List Row) (key : List ℕ) (low high middle : ℕ) → StandInOrder rows → IsHalvedAt rows key low high → low ≤ middle → middle < high
    → IsUpTo key (row_at rows middle).key → IsHalvedAt rows key low middle
halved_high rows key low high middle order is over under h =
    let within : middle < length rows = let wide = is.within in omega (arith, under, wide) in
    let left = drop_at_row rows middle within in
    let stands : StandInOrder (row_at rows middle ∷ drop (middle + 1) rows) = subst StandInOrder left (drop_in_order rows middle order) in
    record {
      within = omega (arith, within);
      ordered = over;
      before = is.before;
      behind = subst (AllByRecursion (λ row. IsUpTo key row.key)) (sym left) (
        h,
        each (λ row. IsUpTo key row.key) (drop (middle + 1) rows)
            (λ later there. up_to-chain key (row_at rows middle).key later.key h
            (up_to_later (row_at rows middle) later (of_each (ComesBefore (row_at rows middle)) (drop (middle + 1) rows) stands.0 later there))),
      );
    }

pub halved_all : (rows : List Row) (key : List ℕ) (low high : ℕ) → IsHalvedAt rows key low high → high ≤ low → ArePartedAt rows (Some key) low
halved_all rows key low high is past =
    let ordered = is.ordered in
    let same : low ≡ high = omega (arith, past, ordered) in
    let within = is.within in
    record {
      within = omega (arith, within, ordered);
      before = is.before;
      behind = subst (λ n. AllByRecursion (λ row. IsUpTo key row.key) (drop n rows)) (sym same) is.behind;
    }

pub parted_none : (rows : List Row) (count : ℕ) → count ≡ length rows → ArePartedAt rows None count
parted_none rows count all = record {
  within = omega (arith, all);
  before = each (λ row. IsBeforeEnd row.key None) (take count rows) (λ row there. tt);
  behind = subst (AllByRecursion (IsPast None)) (sym (drop_all count rows (omega (arith, all)))) tt;
}

-- ---- what was read
first_of : (one other : Option (List ℕ)) (a b : List ℕ) → one ≡ Some a → other ≡ Some b → IsEarlierEnd (Some a) (Some b) (Some a) → IsEarlierEnd one other (Some a)
first_of one other a b p q is = subst (λ o. IsEarlierEnd o other (Some a)) (sym p) (subst (λ o. IsEarlierEnd (Some a) o (Some a)) (sym q) is)

second_of : (one other : Option (List ℕ)) (a b : List ℕ) → one ≡ Some a → other ≡ Some b → IsEarlierEnd (Some a) (Some b) (Some b) → IsEarlierEnd one other (Some b)
second_of one other a b p q is = subst (λ o. IsEarlierEnd o other (Some b)) (sym p) (subst (λ o. IsEarlierEnd (Some a) o (Some b)) (sym q) is)

told : (a b x y : List ℕ) (result answer : Bool) → x ≡ a → y ≡ b → result ≡ is_le (slice_cmp nat_cmp x y) → result ≡ answer → is_le (slice_cmp nat_cmp a b) ≡ answer
told a b x y result answer p q e is = sym (ap (λ k. is_le (slice_cmp nat_cmp k b)) p) ∙ sym (ap (λ k. is_le (slice_cmp nat_cmp x k)) q) ∙ sym e ∙ is

pub first_read : (one other : Option (List ℕ)) (a b x y : List ℕ) (result : Bool) → one ≡ Some a → other ≡ Some b → x ≡ a → y ≡ b → result ≡ is_le (slice_cmp nat_cmp x y)
    → result ≡ true → IsEarlierEnd one other (Some a)
first_read one other a b x y result p q same alike e is = first_of one other a b p q (earlier_first a b (told a b x y result true same alike e is))

pub second_read : (one other : Option (List ℕ)) (a b x y : List ℕ) (result : Bool) → one ≡ Some a → other ≡ Some b → x ≡ a → y ≡ b → result ≡ is_le (slice_cmp nat_cmp x y)
    → result ≡ false → IsEarlierEnd one other (Some b)
second_read one other a b x y result p q same alike e is = second_of one other a b p q (earlier_second a b (told a b x y result false same alike e is))

pub before_read : (a key x : List ℕ) (result : Bool) → x ≡ a → result ≡ is_lt (slice_cmp nat_cmp x key) → result ≡ true → IsBefore a key
before_read a key x result p e is = sym (ap (λ k. is_lt (slice_cmp nat_cmp k key)) p) ∙ sym e ∙ is

pub past_read : (a key x : List ℕ) (result : Bool) → x ≡ a → result ≡ is_lt (slice_cmp nat_cmp x key) → result ≡ false → IsUpTo key a
past_read a key x result p e is = past_by a key (sym (ap (λ k. is_lt (slice_cmp nat_cmp k key)) p) ∙ sym e ∙ is)
