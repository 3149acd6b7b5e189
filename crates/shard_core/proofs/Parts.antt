-- The rows whose keys are in a span, found by the ends of the span.
use Rattle.std.proofs.Common.{◌≡◌, ◌-◌, ◌<◌, ◌≤◌, max, ℕ, zero, suc, List, [], ◌∷◌, take, drop, sym, subst, arith, inl, inr}
use Rattle.std.specs.Prelude.{◌⊎◌, Option, Some, None}
use Rattle.std.proofs.lemmas.Bool.{cases_lt}
use Rattle.std.proofs.lemmas.List.{take-append-drop}
use Rattle.base_core.specs.Lists.{Has}
use Rattle.fed_bytes.specs.declared.span.Span.{Span}
use Rattle.fed_bytes.specs.Keys.{IsUpTo, IsBeforeEnd, IsIn}
use Rattle.fed_bytes.proofs.Orders.{before_up_to}
use Rattle.row_core.specs.declared.rows.Row.{Row}
use Rattle.row_core.specs.Rows.{StandInOrder, AreChanges}
use Rattle.row_core.proofs.Lists.{of_each, each, in_front, behind, in_one}
use Rattle.row_core.proofs.Order.{not_before_itself, front_in_order, back_in_order}
use Rattle.window_merge.specs.Parting.{IsPast, ArePartedAt}
use Rattle.shard_core.specs.Viewing.{IsPartIn}

not_past : (row : Row) (end : Option (List ℕ)) → IsPast end row → IsBeforeEnd row.key end → ⊥
not_past row None past before = past
not_past row (Some end) past before = not_before_itself row.key (before_up_to row.key end row.key before past)

-- a row stands before a place or from there on
front_or_rest : (rows : List Row) (n : ℕ) (row : Row) → Has rows row → Has (take n rows) row ⊎ Has (drop n rows) row
front_or_rest rows n row there = let Stands : List Row → Type 0 = λ list. Has list row in in_one (take n rows) (drop n rows) row (subst Stands (sym (take-append-drop n rows)) there)

has_taken : (rows : List Row) (n : ℕ) (row : Row) → Has (take n rows) row → Has rows row
has_taken rows n row there = let Stands : List Row → Type 0 = λ list. Has list row in subst Stands (take-append-drop n rows) (in_front (take n rows) (drop n rows) row there)

has_dropped : (rows : List Row) (n : ℕ) (row : Row) → Has (drop n rows) row → Has rows row
has_dropped rows n row there = let Stands : List Row → Type 0 = λ list. Has list row in subst Stands (take-append-drop n rows) (behind (take n rows) (drop n rows) row there)

taken_order : (rows : List Row) (n : ℕ) → StandInOrder rows → StandInOrder (take n rows)
taken_order rows n order = front_in_order (take n rows) (drop n rows) (subst StandInOrder (sym (take-append-drop n rows)) order)

dropped_order : (rows : List Row) (n : ℕ) → StandInOrder rows → StandInOrder (drop n rows)
dropped_order rows n order = back_in_order (take n rows) (drop n rows) (subst StandInOrder (sym (take-append-drop n rows)) order)

-- the rows from `first` on that stand before `end` are parted there too
front_parts : (rows : List Row) (first end : ℕ) (row : Row) → first ≤ end → Has (take (end - first) (drop first rows)) row → Has (take end rows) row
front_parts rows zero end row low there = subst (λ n. Has (take n rows) row) (omega arith) there
front_parts [] (suc first) end row low there = absurd (has_taken [] (end - suc first) row there)
front_parts (one ∷ rows) (suc first) zero row low there = absurd (omega (arith, low))
front_parts (one ∷ rows) (suc first) (suc end) row low there =
    inr (front_parts rows first end row (omega (arith, low)) (subst (λ n. Has (take n (drop first rows)) row) (omega arith) there))

rest_parts : (rows : List Row) (first end : ℕ) (row : Row) → first ≤ end → Has (drop (end - first) (drop first rows)) row → Has (drop end rows) row
rest_parts rows zero end row low there = subst (λ n. Has (drop n rows) row) (omega arith) there
rest_parts [] (suc first) end row low there = absurd (has_dropped [] (end - suc first) row there)
rest_parts (one ∷ rows) (suc first) zero row low there = absurd (omega (arith, low))
rest_parts (one ∷ rows) (suc first) (suc end) row low there = rest_parts rows first end row (omega (arith, low)) (subst (λ n. Has (drop n (drop first rows)) row) (omega arith) there)

-- what is dropped from a later place on is dropped from an earlier one on
later_rest : (rows : List Row) (end last : ℕ) (row : Row) → end ≤ last → Has (drop last rows) row → Has (drop end rows) row
later_rest rows zero last row low there = has_dropped rows last row there
later_rest [] (suc end) last row low there = absurd (has_dropped [] last row there)
later_rest (one ∷ rows) (suc end) zero row low there = absurd (omega (arith, low))
later_rest (one ∷ rows) (suc end) (suc last) row low there = later_rest rows end last row (omega (arith, low)) there

none_taken : (n : ℕ) (rows : List Row) (row : Row) → n ≡ 0 → Has (take n rows) row → ⊥
none_taken n rows row none there = subst (λ m. Has (take m rows) row) none there

module _ (span : Span) (rows : List Row) (first end last : ℕ) (order : StandInOrder rows) (left : ArePartedAt rows (Some span.left) first) (right : ArePartedAt rows span.right end)
    (after : first ≤ last) (beyond : end ≤ last) (is_one : (last ≡ end) ⊎ (last ≡ first)) where
  up_to_left : (row : Row) → Has (drop first rows) row → IsUpTo span.left row.key
  up_to_left row there = of_each (IsPast (Some span.left)) (drop first rows) left.behind row there

  before_right : (row : Row) → Has (take end rows) row → IsBeforeEnd row.key span.right
  before_right row there = of_each (λ (r : Row). IsBeforeEnd r.key span.right) (take end rows) right.before row there

  in_by : (row : Row) → (last ≡ end) ⊎ (last ≡ first) → Has (take (last - first) (drop first rows)) row → IsIn span row.key
  in_by row (inl same) there =
      (up_to_left row (has_taken (drop first rows) (last - first) row there), before_right row (subst (λ n. Has (take n rows) row) same (front_parts rows first last row after there)))
  in_by row (inr same) there = absurd (none_taken (last - first) (drop first rows) row (omega (arith, same)) there)

  stands_by : (row : Row) → IsIn span row.key → Has (take first rows) row ⊎ Has (drop first rows) row → Has (take (last - first) (drop first rows)) row
  stands_by row within (inl there) =
      absurd (not_past row (Some span.left) within.0 (of_each (λ (r : Row). IsBeforeEnd r.key (Some span.left)) (take first rows) left.before row there))
  stands_by row within (inr there) = elim (front_or_rest (drop first rows) (last - first) row there) [
    | inl h ↦ h
    | inr h ↦ absurd (not_past row span.right
        (of_each (IsPast span.right) (drop end rows) right.behind row (later_rest rows end last row beyond (rest_parts rows first last row after h))) within.1)
  ]

  pub part_is : IsPartIn span rows (take (last - first) (drop first rows))
  part_is = record {
    in_order = taken_order (drop first rows) (last - first) (dropped_order rows first order);
    has = λ row. (
      λ there. (has_dropped rows first row (has_taken (drop first rows) (last - first) row there), in_by row is_one there),
      λ (there, within). stands_by row within (front_or_rest rows first row there),
    );
  }

greater_by : (end first last : ℕ) → last ≡ max end first → (end < first) ⊎ (first ≤ end) → (last ≡ end) ⊎ (last ≡ first)
greater_by end first last is (inl low) = inr (omega (arith, is, low))
greater_by end first last is (inr high) = inl (omega (arith, is, high))

-- the greater of two numbers is one of them
pub greater : (end first last : ℕ) → last ≡ max end first → (last ≡ end) ⊎ (last ≡ first)
greater end first last is = greater_by end first last is (cases_lt end first)

-- the part of changes is changes
pub part_changes : (time : ℕ) (span : Span) (rows seen part : List Row) → seen ≡ rows → AreChanges time rows → IsPartIn span seen part → AreChanges time part
part_changes time span rows seen part same changes is = record {
  in_order = is.in_order;
  times = each (λ row. row.time ≡ time) part (λ row there. of_each (λ (r : Row). r.time ≡ time) rows changes.times row (let Stands : List Row → Type 0 = λ list. Has list row in subst Stands same ((is.has row).0 there).0));
}
