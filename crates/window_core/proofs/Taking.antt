-- The rows whose keys are in a span, taken one after the other.
use Rattle.std.proofs.Common.{◌≡◌, ◌↔◌, ◌+◌, ◌<◌, ◌≤◌, ℕ, List, [], ◌∷◌, ◌++◌, length, take, drop, get_or, sym, ap, ◌∙◌, subst, inl, inr, append_assoc}
use Rattle.std.specs.Prelude.{◌⊎◌}
use Rattle.std.proofs.lemmas.List.{take_more, drop_more, take_all, drop_all, append-nil}
use Rattle.base_core.specs.Lists.{Has}
use Rattle.fed_bytes.specs.declared.span.Span.{Span}
use Rattle.fed_bytes.specs.Keys.{IsIn}
use Rattle.row_core.specs.declared.rows.Row.{Row}
use Rattle.row_core.specs.Rows.{StandInOrder}
use Rattle.window_core.specs.Runs.{IsTaken, AreThoseIn}
use Rattle.row_core.proofs.Lists.{in_front, behind, in_one}
use Rattle.row_core.proofs.Order.{front_in_order, back_in_order, front_before, joined_in_order}

-- of the first `count` rows those in the span are taken
pub record IsTaking (span : Span) (rows : List Row) (count : ℕ) (run : List Row) : Type 0 where
  pub in_order : StandInOrder (run ++ drop count rows)
  pub has : (row : Row) → (Has run row ↔ (Has (take count rows) row × IsIn span row.key))

pub taking_none : (span : Span) (rows run : List Row) → StandInOrder rows → run ≡ [] → IsTaking span rows 0 run
taking_none span rows run order none = subst (IsTaking span rows 0) (sym none) (record { in_order = order; has = λ row. (λ h. absurd h, λ h. absurd h.0) })

only : (row other : Row) → Has (row ∷ []) other → row ≡ other
only row other (inl e) = e
only row other (inr h) = absurd h

-- a row in the middle is left out
without : (run rest : List Row) (row : Row) → StandInOrder (run ++ row ∷ rest) → StandInOrder (run ++ rest)
without run rest row order =
    joined_in_order run rest (front_in_order run (row ∷ rest) order) (back_in_order run (row ∷ rest) order).1
    (λ one other there later. front_before run (row ∷ rest) order one other there (inr later))

has_by : (span : Span) (run front : List Row) (row other : Row) → (Has run other ↔ (Has front other × IsIn span other.key)) → IsIn span row.key
    → (Has (run ++ row ∷ []) other ↔ (Has (front ++ row ∷ []) other × IsIn span other.key))
has_by span run front row other f inside = (
  λ there. elim (in_one run (row ∷ []) other there) [
    | inl h ↦ (in_front front (row ∷ []) other (f.0 h).0, (f.0 h).1)
    | inr h ↦ (behind front (row ∷ []) other h, subst (λ r. IsIn span r.key) (only row other h) inside)
  ],
  λ (there, within). elim (in_one front (row ∷ []) other there) [
    | inl h ↦ in_front run (row ∷ []) other (f.1 (h, within))
    | inr h ↦ behind run (row ∷ []) other h
  ],
)

left_by : (span : Span) (run front : List Row) (row other : Row) → (Has run other ↔ (Has front other × IsIn span other.key)) → (IsIn span row.key → ⊥)
    → (Has run other ↔ (Has (front ++ row ∷ []) other × IsIn span other.key))
left_by span run front row other f outside = (
  λ there. (in_front front (row ∷ []) other (f.0 there).0, (f.0 there).1),
  λ (there, within). elim (in_one front (row ∷ []) other there) [
    | inl h ↦ f.1 (h, within)
    | inr h ↦ absurd (outside (subst (λ r. IsIn span r.key) (sym (only row other h)) within))
  ],
)

more_by : (span : Span) (rows : List Row) (count : ℕ) (run : List Row) (row : Row) → IsTaking span rows count run → drop count rows ≡ row ∷ drop (count + 1) rows
    → take (count + 1) rows ≡ take count rows ++ row ∷ [] → (more : List Row)
    → (IsIn span row.key × (more ≡ run ++ row ∷ [])) ⊎ ((IsIn span row.key → ⊥) × (more ≡ run)) → IsTaking span rows (count + 1) more
more_by span rows count run row is left taken more (inl (inside, added)) = subst (IsTaking span rows (count + 1)) (sym added) (record {
  in_order = subst StandInOrder (ap (λ list. run ++ list) left ∙ sym (append_assoc run (row ∷ []) (drop (count + 1) rows))) is.in_order;
  has = λ other. let Split : List Row → Type 0 = λ list. (Has (run ++ row ∷ []) other ↔ (Has list other × IsIn span other.key)) in
      subst Split (sym taken) (has_by span run (take count rows) row other (is.has other) inside);
})
more_by span rows count run row is left taken more (inr (outside, same)) = subst (IsTaking span rows (count + 1)) (sym same) (record {
  in_order = without run (drop (count + 1) rows) row (subst StandInOrder (ap (λ list. run ++ list) left) is.in_order);
  has = λ other. let Split : List Row → Type 0 = λ list. (Has run other ↔ (Has list other × IsIn span other.key)) in
      subst Split (sym taken) (left_by span run (take count rows) row other (is.has other) outside);
})

pub taking_more : (span : Span) (rows : List Row) (count : ℕ) (run more : List Row) (row : Row) → IsTaking span rows count run → count < length rows
    → row ≡ get_or rows count row → IsTaken span row run more → IsTaking span rows (count + 1) more
taking_more span rows count run more row is within read step =
    more_by span rows count run row is (drop_more rows count row within ∙ ap (λ r. r ∷ drop (count + 1) rows) (sym read))
    (take_more rows count row within ∙ ap (λ r. take count rows ++ r ∷ []) (sym read)) more step

pub taking_all : (span : Span) (rows : List Row) (count : ℕ) (run : List Row) → IsTaking span rows count run → length rows ≤ count → AreThoseIn span rows run
taking_all span rows count run is past = record {
  in_order = subst StandInOrder (ap (λ list. run ++ list) (drop_all count rows past) ∙ append-nil run) is.in_order;
  has = λ row. let Split : List Row → Type 0 = λ list. (Has run row ↔ (Has list row × IsIn span row.key)) in subst Split (take_all count rows past) (is.has row);
}
