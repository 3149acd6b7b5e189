-- What a window in memory holds once rows were added, and at first.
use Rattle.std.proofs.Common.{◌≡◌, ◌↔◌, ◌+◌, ◌<◌, ◌≤◌, ℕ, List, [], ◌∷◌, length, take, get_or, refl, sym, ap, ◌∙◌, subst, arith, inl, inr}
use Rattle.std.specs.Prelude.{◌⊎◌}
use Rattle.std.proofs.lemmas.List.{append-nil, take_more, take_all, get_or_read}
use Rattle.base_core.specs.Lists.{Has}
use Rattle.fed_bytes.specs.declared.span.Span.{Span}
use Rattle.fed_bytes.specs.Keys.{IsIn}
use Rattle.row_core.specs.declared.rows.Row.{Row}
use Rattle.window_core.specs.Packed.{row_at}
use Rattle.row_core.specs.Rows.{StandInOrder, IsWithin, AreWithin, AreChanges, AreExtended}
use Rattle.window_core.specs.Runs.{arranged, run_at, all_of, merged, AreOlder, AreRuns, AreThoseIn}
use Rattle.row_core.proofs.Lists.{of_each, each}
use Rattle.window_core.proofs.Arranging.{arranged_in_order, arranged_same, are_older, merged_has, all_of-append, all_of_one}
use Rattle.window_core.proofs.Merging.{has_dropped, has_at_index}
use Rattle.window_core.proofs.Choosing.{run_in_all}

-- no row of a window is of a later time
pub none_later : (span : Span) (from upto : ℕ) (runs : List (List Row)) → AreRuns runs → AreWithin span from upto (merged runs) → (row : Row) → Has (all_of runs) row → row.time ≤ upto
none_later span from upto runs are within row there = (of_each (IsWithin span from upto) (merged runs) within row ((merged_has runs are row).1 there)).at_most

-- the rows of a new time are newer than all others
pub times_rise : (span : Span) (from upto time : ℕ) (runs : List (List Row)) (rows run : List Row) → AreRuns runs → AreWithin span from upto (merged runs) → time ≡ upto + 1
    → AreChanges time rows → AreThoseIn span rows run → AreOlder (all_of runs) run
times_rise span from upto time runs rows run are within next changes taken = are_older (all_of runs) run (λ one other there later.
    let low = none_later span from upto runs are within one there in
    let at : other.time ≡ time = of_each (λ row. row.time ≡ time) rows changes.times other ((taken.has other).0 later).0 in
    omega (arith, low, at, next))

pub extended : (span : Span) (rows run : List Row) (old new : List (List Row)) → AreRuns old → AreRuns new → AreThoseIn span rows run
    → ((row : Row) → (Has (all_of new) row ↔ (Has (all_of old) row ⊎ Has run row))) → AreExtended span (merged old) rows (merged new)
extended span rows run old new are_old are_new taken has = record {
  in_order = arranged_in_order (all_of new);
  has = λ row. (
    λ there. elim ((has row).0 ((merged_has new are_new row).0 there)) [
      | inl h ↦ inl ((merged_has old are_old row).1 h)
      | inr h ↦ inr ((taken.has row).0 h)
    ],
    elim [
      | inl h ↦ (merged_has new are_new row).1 ((has row).1 (inl ((merged_has old are_old row).0 h)))
      | inr h ↦ (merged_has new are_new row).1 ((has row).1 (inr ((taken.has row).1 h)))
    ],
  );
}

later_within : (span : Span) (from upto time : ℕ) (row : Row) → time ≡ upto + 1 → IsWithin span from upto row → IsWithin span from time row
later_within span from upto time row next is = record { key = is.key; above = is.above; at_most = let low = is.at_most in omega (arith, low, next) }

new_within : (span : Span) (from upto time : ℕ) (rows : List Row) (row : Row) → from ≤ upto → time ≡ upto + 1 → AreChanges time rows → Has rows row × IsIn span row.key
    → IsWithin span from time row
new_within span from upto time rows row times next changes (there, inside) =
    let at : row.time ≡ time = of_each (λ r. r.time ≡ time) rows changes.times row there in
    record { key = inside; above = omega (arith, at, next, times); at_most = omega (arith, at) }

pub within_later : (span : Span) (from upto time : ℕ) (old added new : List Row) → from ≤ upto → time ≡ upto + 1 → AreWithin span from upto old → AreChanges time added
    → AreExtended span old added new → AreWithin span from time new
within_later span from upto time old added new times next within changes is = each (IsWithin span from time) new (λ row there. elim ((is.has row).0 there) [
  | inl h ↦ later_within span from upto time row next (of_each (IsWithin span from upto) old within row h)
  | inr h ↦ new_within span from upto time added row times next changes h
])

-- ---- one run
pub one_run : (rows : List Row) → StandInOrder rows → AreRuns (rows ∷ [])
one_run rows order = ((order, tt), (are_older rows [] (λ one other there later. absurd later), tt))

pub one_merged : (rows : List Row) → StandInOrder rows → merged (rows ∷ []) ≡ rows
one_merged rows order = ap arranged (append-nil rows) ∙ arranged_same rows order

-- ---- no rows
none_by : (rows : List Row) → ((row : Row) → Has rows row → ⊥) → rows ≡ []
none_by [] f = refl
none_by (row ∷ rows) f = absurd (f row (inl refl))

pub merged_none : (runs : List (List Row)) → AreRuns runs → ((all_of runs ≡ []) ↔ (merged runs ≡ []))
merged_none runs are = (λ none. ap arranged none, λ none. none_by (all_of runs) (λ row there. let In : List Row → Type 0 = λ list. Has list row in subst In none ((merged_has runs are row).1 there)))

pub not_empty : (runs : List (List Row)) (index len : ℕ) (run : List Row) → index < length runs → run ≡ get_or runs index run → len ≡ length run → 0 < len → all_of runs ≡ [] → ⊥
not_empty runs index len run within read size some none =
    let own = get_or_read runs index run within read [] in
    let there = has_dropped run 0 (row_at run 0) (has_at_index run 0 (omega (arith, size, some))) in
    let Stands : List Row → Type 0 = λ list. Has list (row_at run 0) in
    subst Stands none (run_in_all runs index (row_at run 0) within (subst Stands own there))

no_row : (run : List Row) → length run ≤ 0 → (row : Row) → Has run row → ⊥
no_row [] h row there = there
no_row (first ∷ run) h row there = absurd (omega (arith, h))

pub empty_more : (runs : List (List Row)) (index len : ℕ) (run : List Row) → index < length runs → run ≡ get_or runs index run → len ≡ length run → len ≤ 0 → all_of (take index runs) ≡ []
    → all_of (take (index + 1) runs) ≡ []
empty_more runs index len run within read size none so_far =
    let own = get_or_read runs index run within read [] in
    let In : Row → List Row → Type 0 = λ row list. Has list row in
    let All : Row → List (List Row) → Type 0 = λ row list. Has (all_of list) row in
    none_by (all_of (take (index + 1) runs)) (λ row there. elim ((all_of-append (take index runs) (run_at runs index ∷ []) row).0 (subst (All row) (take_more runs index [] within) there)) [
      | inl h ↦ subst (In row) so_far h
      | inr h ↦ no_row run (omega (arith, size, none)) row (subst (In row) (sym own) ((all_of_one (run_at runs index) row).0 h))
    ])

pub empty_all : (runs : List (List Row)) (index : ℕ) → length runs ≤ index → all_of (take index runs) ≡ [] → all_of runs ≡ []
empty_all runs index past none = sym (ap all_of (take_all index runs past)) ∙ none
