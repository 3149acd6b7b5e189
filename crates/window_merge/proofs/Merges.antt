-- Two lists of rows in order made one, row by row.
use Rattle.std.proofs.Common.{◌≡◌, ◌+◌, ◌<◌, ℕ, suc, List, [], ◌∷◌, ◌++◌, length, get_or, Bool, true, false, ltb, refl, sym, ap, ◌∙◌, subst, arith, inl, inr, append_assoc}
use Rattle.std.specs.Prelude.{◌⊎◌, Some, None}
use Rattle.std.specs.Ordering.{is_lt, nat_cmp}
use Rattle.std.specs.Cmp.Lexicographic.{slice_cmp}
use Rattle.std.proofs.lemmas.List.{append-nil}
use Rattle.base_core.specs.Lists.{Has}
use Rattle.fed_bytes.specs.Keys.{IsBefore, IsUpTo}
use Rattle.fed_bytes.proofs.Orders.{no_answer, before_up_to, up_to-chain}
use Rattle.row_core.specs.declared.rows.Row.{Row}
use Rattle.row_core.specs.Rows.{ComesBefore, StandInOrder}
use Rattle.window_core.specs.Runs.{IsMerge}
use Rattle.row_core.proofs.Lists.{of_each, each}
use Rattle.row_core.proofs.Order.{up_to_is, up_to_any_later}
use Rattle.window_core.proofs.Merging.{turned_merge}
use Rattle.window_merge.specs.Merging.{AreEarlier, IsBeforeFirst, IsUpToFirst, IsNewerFirst, IsNextRow}
use Rattle.window_merge.proofs.Ends.{past_by}

-- what is left of two lists, and the rows that were taken from both
pub record IsMergingOf (older newer left_older left_newer rows : List Row) : Type 0 where
  pub first : StandInOrder left_older
  pub second : StandInOrder left_newer
  pub times : AreEarlier left_older left_newer
  pub completes : (merge : List Row) → IsMerge left_older left_newer merge → IsMerge older newer (rows ++ merge)

pub merging_none : (older newer rows : List Row) → StandInOrder older → StandInOrder newer → AreEarlier older newer → rows ≡ [] → IsMergingOf older newer older newer rows
merging_none older newer rows first second times none = subst (IsMergingOf older newer older newer) (sym none) (record {
  first = first;
  second = second;
  times = times;
  completes = λ merge is. is;
})

-- ---- a row before all others
onto_merge : (row : Row) (left other merge : List Row) → StandInOrder (row ∷ left) → ((later : Row) → Has other later → ComesBefore row later) → IsMerge left other merge
    → IsMerge (row ∷ left) other (row ∷ merge)
onto_merge row left other merge order before is = record {
  in_order = (
    each (ComesBefore row) merge (λ later there. elim ((is.has later).0 there) [ inl h ↦ of_each (ComesBefore row) left order.0 later h | inr h ↦ before later h ]),
    is.in_order,
  );
  has = λ later. (
    elim [
      | inl e ↦ inl (inl e)
      | inr there ↦ (elim ((is.has later).0 there) [ inl h ↦ inl (inr h) | inr h ↦ inr h ])
    ],
    elim [
      | inl h ↦ (elim h [ inl e ↦ inl e | inr there ↦ inr ((is.has later).1 (inl there)) ])
      | inr h ↦ inr ((is.has later).1 (inr h))
    ],
  );
}

before_all : (row : Row) (newer : List Row) → StandInOrder newer → IsBeforeFirst row newer → (later : Row) → Has newer later → ComesBefore row later
before_all row [] order h later there = absurd there
before_all row (first ∷ rest) order h later there = inl (before_up_to row.key first.key later.key h (up_to_any_later first later rest order there))

newer_by : (row later : Row) → later.time < row.time → IsBefore row.key later.key ⊎ (row.key ≡ later.key) → ComesBefore row later
newer_by row later older (inl before) = inl before
newer_by row later older (inr same) = inr (same, older)

up_to_all : (row : Row) (older : List Row) → StandInOrder older → ((later : Row) → Has older later → later.time < row.time) → IsUpToFirst row older
    → (later : Row) → Has older later → ComesBefore row later
up_to_all row [] order times h later there = absurd there
up_to_all row (first ∷ rest) order times h later there =
    newer_by row later (times later there) (up_to_is row.key later.key (up_to-chain row.key first.key later.key h (up_to_any_later first later rest order there)))

-- ---- one row more
older_next : (older newer left other rows : List Row) (row : Row) → IsMergingOf older newer (row ∷ left) other rows → IsBeforeFirst row other → IsMergingOf older newer left other (rows ++ row ∷ [])
older_next older newer left other rows row is before = record {
  first = is.first.1;
  second = is.second;
  times = λ one later there behind. is.times one later (inr there) behind;
  completes = λ merge m. subst (IsMerge older newer) (sym (append_assoc rows (row ∷ []) merge))
      (is.completes (row ∷ merge) (onto_merge row left other merge is.first (before_all row other is.second before) m));
}

newer_next : (older newer left other rows : List Row) (row : Row) → IsMergingOf older newer other (row ∷ left) rows → IsUpToFirst row other → IsMergingOf older newer other left (rows ++ row ∷ [])
newer_next older newer left other rows row is up_to = record {
  first = is.first;
  second = is.second.1;
  times = λ one later there behind. is.times one later there (inr behind);
  completes = λ merge m. subst (IsMerge older newer) (sym (append_assoc rows (row ∷ []) merge))
      (is.completes (row ∷ merge)
      (turned_merge (row ∷ left) other (row ∷ merge)
      (onto_merge row left other merge is.second (up_to_all row other is.first (λ later there. is.times later row there (inl refl)) up_to) (turned_merge other left merge m))));
}

pub merging_step : (older newer left_older left_newer next_older next_newer rows more : List Row) (row : Row) → IsMergingOf older newer left_older left_newer rows
    → IsNextRow left_older left_newer next_older next_newer (Some row) → more ≡ rows ++ row ∷ [] → IsMergingOf older newer next_older next_newer more
merging_step older newer left_older left_newer next_older next_newer rows more row is (inl (took, same, before)) added =
    subst (IsMergingOf older newer next_older next_newer) (sym added)
    (subst (λ list. IsMergingOf older newer next_older list (rows ++ row ∷ [])) (sym same)
    (older_next older newer next_older left_newer rows row (subst (λ list. IsMergingOf older newer list left_newer rows) took is) before))
merging_step older newer left_older left_newer next_older next_newer rows more row is (inr (took, same, up_to)) added =
    subst (IsMergingOf older newer next_older next_newer) (sym added)
    (subst (λ list. IsMergingOf older newer list next_newer (rows ++ row ∷ [])) (sym same)
    (newer_next older newer next_newer left_older rows row (subst (λ list. IsMergingOf older newer left_older list rows) took is) up_to))

pub merging_less : (left_older left_newer next_older next_newer : List Row) (row : Row) → IsNextRow left_older left_newer next_older next_newer (Some row)
    → length next_older + length next_newer < length left_older + length left_newer
merging_less left_older left_newer next_older next_newer row (inl (took, same, before)) =
    let longer : length left_older ≡ suc (length next_older) = ap length took in
    let as_long : length next_newer ≡ length left_newer = ap length same in omega (arith, longer, as_long)
merging_less left_older left_newer next_older next_newer row (inr (took, same, up_to)) =
    let longer : length left_newer ≡ suc (length next_newer) = ap length took in
    let as_long : length next_older ≡ length left_older = ap length same in omega (arith, longer, as_long)

no_rows : IsMerge [] [] []
no_rows = record { in_order = tt; has = λ row. (λ h. absurd h, elim [ inl h ↦ absurd h | inr h ↦ absurd h ]) }

pub merging_all : (older newer left_older left_newer next_older next_newer rows : List Row) → IsMergingOf older newer left_older left_newer rows
    → IsNextRow left_older left_newer next_older next_newer None → IsMerge older newer rows
merging_all older newer left_older left_newer next_older next_newer rows is (none, no_more) =
    subst (IsMerge older newer) (append-nil rows) (is.completes [] (subst (λ list. IsMerge left_older list []) (sym no_more) (subst (λ list. IsMerge list [] []) (sym none) no_rows)))

-- ---- what was read
newer_by_first : (older newer : List Row) (one other : Row) → one ≡ get_or older 0 one → other ≡ get_or newer 0 other → true ≡ ltb 0 (length newer) → IsUpTo other.key one.key → IsNewerFirst older newer
newer_by_first older [] one other p q some up_to = no_answer (sym some)
newer_by_first [] (row ∷ newer) one other p q some up_to = tt
newer_by_first (first ∷ older) (row ∷ newer) one other p q some up_to = subst (λ r. IsUpTo r.key first.key) q (subst (λ r. IsUpTo other.key r.key) p up_to)

pub newer_read : (older newer : List Row) (one other : Row) (x y : List ℕ) (result : Bool) → one ≡ get_or older 0 one → other ≡ get_or newer 0 other → true ≡ ltb 0 (length newer)
    → x ≡ one.key → y ≡ other.key → result ≡ is_lt (slice_cmp nat_cmp x y) → result ≡ false → IsNewerFirst older newer
newer_read older newer one other x y result p q some same alike e is =
    newer_by_first older newer one other p q some
    (past_by one.key other.key (sym (ap (λ k. is_lt (slice_cmp nat_cmp k other.key)) same) ∙ sym (ap (λ k. is_lt (slice_cmp nat_cmp x k)) alike) ∙ sym e ∙ is))
