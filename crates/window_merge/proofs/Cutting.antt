-- Rows cut off before an end and behind so many keys.
use Rattle.std.proofs.Common.{◌≡◌, ◌<◌, ◌≤◌, ℕ, List, ◌++◌, length, take, drop, refl, sym, ap, ◌∙◌, subst, inl, inr, append_assoc}
use Rattle.std.specs.Prelude.{Option, Some}
use Rattle.std.specs.List.{AllByRecursion}
use Rattle.std.proofs.lemmas.List.{take-append-drop, take_all}
use Rattle.base_core.specs.Lists.{Has}
use Rattle.fed_bytes.specs.Keys.{IsBefore, IsBeforeEnd}
use Rattle.row_core.specs.declared.rows.Row.{Row}
use Rattle.window_core.specs.Packed.{row_at}
use Rattle.row_core.specs.Rows.{ComesBefore, StandInOrder, HaveKeys, BeginWith}
use Rattle.row_core.proofs.Lists.{of_each, each}
use Rattle.row_core.proofs.Order.{front_in_order}
use Rattle.window_core.proofs.Merging.{drop_at_row, has_dropped, has_at_index}
use Rattle.window_merge.specs.Merging.{IsCut, AreOfKeys}
use Rattle.window_merge.specs.Parting.{ArePartedAt}
use Rattle.window_merge.specs.Values.{IsKeyOf}
use Rattle.window_merge.proofs.Ends.{front_up_to}

pub front_order : (rows : List Row) (count : ℕ) → StandInOrder rows → StandInOrder (take count rows)
front_order rows count order = front_in_order (take count rows) (drop count rows) (subst StandInOrder (sym (take-append-drop count rows)) order)

-- no key begins behind the first ones
pub cut_at_end : (rows fitting : List Row) (end : Option (List ℕ)) (most parted count : ℕ) → ArePartedAt rows end parted → fitting ≡ take parted rows → AreOfKeys fitting most count
    → length fitting ≤ count → IsCut rows end most (record { rows = fitting; next = end })
cut_at_end rows fitting end most parted count is same of past = record {
  rest = drop parted rows;
  count = of.different;
  whole = sym (take-append-drop parted rows) ∙ ap (λ list. list ++ drop parted rows) (sym same);
  keys = subst (λ list. HaveKeys list of.different) (take_all count fitting past) of.keys;
  before = subst (AllByRecursion (λ row. IsBeforeEnd row.key end)) (sym same) is.before;
  ends = inr (refl, of.at_most, is.behind);
}

before_by : (rows : List Row) (row first : Row) → Has rows row → (IsKeyOf rows first.key → ⊥) → ComesBefore row first → IsBefore row.key first.key
before_by rows row first there fresh (inl before) = before
before_by rows row first there fresh (inr (same, later)) = absurd (fresh (row, there, same))

-- the next key begins there
pub cut_at_key : (rows fitting : List Row) (end : Option (List ℕ)) (most parted count : ℕ) (key : List ℕ) (kept : List Row) → StandInOrder rows → ArePartedAt rows end parted
    → fitting ≡ take parted rows → AreOfKeys fitting most count → count < length fitting → key ≡ (row_at fitting count).key → kept ≡ take count fitting
    → IsCut rows end most (record { rows = kept; next = Some key })
cut_at_key rows fitting end most parted count key kept order is same of within named taken =
    let first = row_at fitting count in
    let full = of.full within in
    let in_order : StandInOrder fitting = subst StandInOrder (sym same) (front_order rows parted order) in
    let before_end : AllByRecursion (λ row. IsBeforeEnd row.key end) fitting = subst (AllByRecursion (λ row. IsBeforeEnd row.key end)) (sym same) is.before in
    let there : Has fitting first = has_dropped fitting count first (has_at_index fitting count within) in
    subst (λ list. IsCut rows end most (record { rows = list; next = Some key })) (sym taken)
    (subst (λ k. IsCut rows end most (record { rows = take count fitting; next = Some k })) (sym named) (record {
      rest = drop count fitting ++ drop parted rows;
      count = of.different;
      whole = sym (take-append-drop parted rows) ∙ ap (λ list. list ++ drop parted rows) (sym same ∙ sym (take-append-drop count fitting))
          ∙ append_assoc (take count fitting) (drop count fitting) (drop parted rows);
      keys = of.keys;
      before = each (λ row. IsBefore row.key first.key) (take count fitting)
          (λ row stands. before_by (take count fitting) row first stands full.1 (front_up_to fitting count in_order within row stands));
      ends = inl (
        first.key,
        refl,
        subst (λ list. BeginWith first.key (list ++ drop parted rows)) (sym (drop_at_row fitting count within)) refl,
        of_each (λ row. IsBeforeEnd row.key end) fitting before_end first there,
        full.0,
      );
    }))
