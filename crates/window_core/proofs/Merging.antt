-- The merge of two lists of rows in order. It is one list, whoever makes it: so windows that are merged have a law.
use Rattle.std.proofs.Common.{◌≡◌, ◌↔◌, ◌+◌, ◌<◌, ◌≤◌, ℕ, List, [], ◌∷◌, ◌++◌, length, take, drop, refl, sym, subst, inl, inr}
use Rattle.std.specs.Prelude.{◌⊎◌}
use Rattle.std.proofs.lemmas.List.{take-append-drop, take_more, drop_more, take_all, drop_all}
use Rattle.std.proofs.lemmas.Bool.{cases_lt}
use Rattle.base_core.specs.Lists.{Has}
use Rattle.fed_bytes.specs.Keys.{IsBefore, IsUpTo}
use Rattle.fed_bytes.proofs.Orders.{before_up_to, up_to-chain}
use Rattle.row_core.specs.declared.rows.Row.{Row}
use Rattle.row_core.specs.declared.rows.Cell.TheVariants.{Deleted}
use Rattle.window_core.specs.Packed.{row_at, row_with}
use Rattle.row_core.specs.Rows.{ComesBefore, StandInOrder}
use Rattle.window_core.specs.Runs.{AreOlder, IsMerge, IsOlderNext, IsNewerNext}
use Rattle.row_core.proofs.Lists.{of_each, in_front, behind, in_one}
use Rattle.row_core.proofs.Order.{back_in_order, joined_in_order, up_to_is, up_to_any_later}
use Rattle.window_core.proofs.Arranging.{one_order, older_of}

-- ---- the law
-- two merges of the same lists are one
pub one_merge : (one other merge again : List Row) → IsMerge one other merge → IsMerge one other again → merge ≡ again
one_merge one other merge again is so = one_order merge again is.in_order so.in_order (λ row. (λ there. (so.has row).1 ((is.has row).0 there), λ there. (is.has row).1 ((so.has row).0 there)))

pub turned_merge : (one other merge : List Row) → IsMerge one other merge → IsMerge other one merge
turned_merge one other merge is = record {
  in_order = is.in_order;
  has = λ row. (
    λ there. elim ((is.has row).0 there) [ inl h ↦ inr h | inr h ↦ inl h ],
    elim [ inl h ↦ (is.has row).1 (inr h) | inr h ↦ (is.has row).1 (inl h) ],
  );
}

-- ---- a row at an index
pub drop_at_row : (rows : List Row) (index : ℕ) → index < length rows → drop index rows ≡ row_at rows index ∷ drop (index + 1) rows
drop_at_row rows index within = drop_more rows index (row_with [] 0 Deleted) within

pub take_at_row : (rows : List Row) (index : ℕ) → index < length rows → take (index + 1) rows ≡ take index rows ++ row_at rows index ∷ []
take_at_row rows index within = take_more rows index (row_with [] 0 Deleted) within

pub drop_in_order : (rows : List Row) (index : ℕ) → StandInOrder rows → StandInOrder (drop index rows)
drop_in_order rows index order = back_in_order (take index rows) (drop index rows) (subst StandInOrder (sym (take-append-drop index rows)) order)

pub has_dropped : (rows : List Row) (index : ℕ) (row : Row) → Has (drop index rows) row → Has rows row
has_dropped rows index row there =
    let Stands : List Row → Type 0 = λ list. Has list row in subst Stands (take-append-drop index rows) (behind (take index rows) (drop index rows) row there)

pub has_at_index : (rows : List Row) (index : ℕ) → index < length rows → Has (drop index rows) (row_at rows index)
has_at_index rows index within =
    let Stands : List Row → Type 0 = λ list. Has list (row_at rows index) in subst Stands (sym (drop_at_row rows index within)) (inl refl)

-- ---- the rows before two indexes are merged
pub record IsMerging (one other : List Row) (from_one from_other : ℕ) (merge : List Row) : Type 0 where
  pub in_order : StandInOrder merge
  pub has : (row : Row) → (Has merge row ↔ (Has (take from_one one) row ⊎ Has (take from_other other) row))
  pub before_one : (row later : Row) → Has merge row → Has (drop from_one one) later → ComesBefore row later
  pub before_other : (row later : Row) → Has merge row → Has (drop from_other other) later → ComesBefore row later

pub merging_none : (one other merge : List Row) → merge ≡ [] → IsMerging one other 0 0 merge
merging_none one other merge none = subst (IsMerging one other 0 0) (sym none) (record {
  in_order = tt;
  has = λ row. (λ h. absurd h, elim [ inl h ↦ absurd h | inr h ↦ absurd h ]);
  before_one = λ row later there. absurd there;
  before_other = λ row later there. absurd there;
})

turned_merging : (one other : List Row) (from_one from_other : ℕ) (merge : List Row) → IsMerging one other from_one from_other merge → IsMerging other one from_other from_one merge
turned_merging one other from_one from_other merge is = record {
  in_order = is.in_order;
  has = λ row. (
    λ there. elim ((is.has row).0 there) [ inl h ↦ inr h | inr h ↦ inl h ],
    elim [ inl h ↦ (is.has row).1 (inr h) | inr h ↦ (is.has row).1 (inl h) ],
  );
  before_one = is.before_other;
  before_other = is.before_one;
}

only : (row other : Row) → Has (row ∷ []) other → row ≡ other
only row other (inl e) = e
only row other (inr h) = absurd h

has_more : (merge front others : List Row) (row other : Row) → (Has merge other ↔ (Has front other ⊎ Has others other))
    → (Has (merge ++ row ∷ []) other ↔ (Has (front ++ row ∷ []) other ⊎ Has others other))
has_more merge front others row other f = (
  λ there. elim (in_one merge (row ∷ []) other there) [
    | inl h ↦ (elim (f.0 h) [ inl p ↦ inl (in_front front (row ∷ []) other p) | inr p ↦ inr p ])
    | inr h ↦ inl (behind front (row ∷ []) other h)
  ],
  elim [
    | inl h ↦ (elim (in_one front (row ∷ []) other h) [
      | inl p ↦ in_front merge (row ∷ []) other (f.1 (inl p))
      | inr p ↦ behind merge (row ∷ []) other p
    ])
    | inr h ↦ in_front merge (row ∷ []) other (f.1 (inr h))
  ],
)

before_more : (merge rest : List Row) (row one later : Row) → ((r l : Row) → Has merge r → Has rest l → ComesBefore r l) → ((l : Row) → Has rest l → ComesBefore row l)
    → Has merge one ⊎ Has (row ∷ []) one → Has rest later → ComesBefore one later
before_more merge rest row one later f g (inl there) behind = f one later there behind
before_more merge rest row one later f g (inr there) behind = subst (λ r. ComesBefore r later) (only row one there) (g later behind)

-- the next row of one list is merged, if it comes before all that are left of the other
merging_more : (one other : List Row) (from_one from_other : ℕ) (merge more : List Row) → StandInOrder one → IsMerging one other from_one from_other merge → from_one < length one
    → ((later : Row) → Has (drop from_other other) later → ComesBefore (row_at one from_one) later) → more ≡ merge ++ row_at one from_one ∷ []
    → IsMerging one other (from_one + 1) from_other more
merging_more one other from_one from_other merge more order is within first taken =
    let row = row_at one from_one in
    let left = drop_at_row one from_one within in
    let In : Row → List Row → Type 0 = λ r list. Has list r in
    let own : (later : Row) → Has (drop (from_one + 1) one) later → ComesBefore row later =
    λ later there. of_each (ComesBefore row) (drop (from_one + 1) one) (subst StandInOrder left (drop_in_order one from_one order)).0 later there in
    subst (IsMerging one other (from_one + 1) from_other) (sym taken) (record {
      in_order = joined_in_order merge (row ∷ []) is.in_order (tt, tt)
          (λ r later there behind. is.before_one r later there (subst (λ l. Has (drop from_one one) l) (only row later behind) (subst (In row) (sym left) (inl refl))));
      has = λ r. let Split : List Row → Type 0 = λ list. (Has (merge ++ row ∷ []) r ↔ (Has list r ⊎ Has (take from_other other) r)) in
          subst Split (sym (take_at_row one from_one within)) (has_more merge (take from_one one) (take from_other other) row r (is.has r));
      before_one = λ r later there behind.
          before_more merge (drop (from_one + 1) one) row r later (λ p q stands after. is.before_one p q stands (subst (In q) (sym left) (inr after))) own (in_one merge (row ∷ []) r there) behind;
      before_other = λ r later there behind. before_more merge (drop from_other other) row r later is.before_other first (in_one merge (row ∷ []) r there) behind;
    })

pub merging_all : (one other : List Row) (from_one from_other : ℕ) (merge : List Row) → IsMerging one other from_one from_other merge → length one ≤ from_one → length other ≤ from_other
    → IsMerge one other merge
merging_all one other from_one from_other merge is all_one all_other = record {
  in_order = is.in_order;
  has = λ row. let Split : List Row → List Row → Type 0 = λ p q. (Has merge row ↔ (Has p row ⊎ Has q row)) in
      subst (λ p. Split p other) (take_all from_one one all_one) (subst (Split (take from_one one)) (take_all from_other other all_other) (is.has row));
}

-- ---- an older and a newer list
-- the first of what is left stands up to all of it
pub left_up_to : (rows : List Row) (index : ℕ) (later : Row) → StandInOrder rows → Has (drop index rows) later → index < length rows → IsUpTo (row_at rows index).key later.key
left_up_to rows index later order there within =
    let left = drop_at_row rows index within in
    let In : List Row → Type 0 = λ list. Has list later in
    up_to_any_later (row_at rows index) later (drop (index + 1) rows) (subst StandInOrder left (drop_in_order rows index order)) (subst In left there)

pub some_left : (rows : List Row) (index : ℕ) (later : Row) → Has (drop index rows) later → (index < length rows) ⊎ (length rows ≤ index) → index < length rows
some_left rows index later there (inl within) = within
some_left rows index later there (inr past) =
    let In : List Row → Type 0 = λ list. Has list later in absurd (subst In (drop_all index rows past) there)

older_first : (older newer : List Row) (from_older from_newer : ℕ) → StandInOrder newer → IsOlderNext older from_older newer from_newer
    → (later : Row) → Has (drop from_newer newer) later → ComesBefore (row_at older from_older) later
older_first older newer from_older from_newer order next later there =
    let within = some_left newer from_newer later there (cases_lt from_newer (length newer)) in
    inl (before_up_to (row_at older from_older).key (row_at newer from_newer).key later.key (next.before within) (left_up_to newer from_newer later order there within))

newer_by : (row later : Row) → later.time < row.time → IsBefore row.key later.key ⊎ (row.key ≡ later.key) → ComesBefore row later
newer_by row later older (inl before) = inl before
newer_by row later older (inr same) = inr (same, older)

newer_first : (older newer : List Row) (from_older from_newer : ℕ) → StandInOrder older → AreOlder older newer → IsNewerNext older from_older newer from_newer
    → (later : Row) → Has (drop from_older older) later → ComesBefore (row_at newer from_newer) later
newer_first older newer from_older from_newer order times next later there =
    let within = some_left older from_older later there (cases_lt from_older (length older)) in
    let row = row_at newer from_newer in
    let up_to = up_to-chain row.key (row_at older from_older).key later.key (next.up_to within) (left_up_to older from_older later order there within) in
    let before = older_of older newer times later row (has_dropped older from_older later there) (has_dropped newer from_newer row (has_at_index newer from_newer next.there)) in
    newer_by row later before (up_to_is row.key later.key up_to)

pub merging_older : (older newer : List Row) (from_older from_newer : ℕ) (merge more : List Row) → StandInOrder older → StandInOrder newer → IsMerging older newer from_older from_newer merge
    → IsOlderNext older from_older newer from_newer → more ≡ merge ++ row_at older from_older ∷ [] → IsMerging older newer (from_older + 1) from_newer more
merging_older older newer from_older from_newer merge more first second is next taken =
    merging_more older newer from_older from_newer merge more first is next.there (older_first older newer from_older from_newer second next) taken

pub merging_newer : (older newer : List Row) (from_older from_newer : ℕ) (merge more : List Row) → StandInOrder older → StandInOrder newer → AreOlder older newer
    → IsMerging older newer from_older from_newer merge → IsNewerNext older from_older newer from_newer → more ≡ merge ++ row_at newer from_newer ∷ []
    → IsMerging older newer from_older (from_newer + 1) more
merging_newer older newer from_older from_newer merge more first second times is next taken =
    turned_merging newer older (from_newer + 1) from_older more
    (merging_more newer older from_newer from_older merge more second (turned_merging older newer from_older from_newer merge is) next.there
    (newer_first older newer from_older from_newer first times next) taken)
