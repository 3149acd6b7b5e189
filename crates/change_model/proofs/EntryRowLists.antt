-- Lists of rows as they are made.
use Rattle.std.proofs.Common.{◌≡◌, ℕ, ◌+◌, ◌<◌, List, [], ◌∷◌, ◌++◌, map, length, take, get_or, sym, ◌∙◌, ap}
use Rattle.std.proofs.lemmas.List.{map_more, map-append}
use Rattle.row_core.specs.declared.rows.Row.{Row}

pub row_more : {E : Type 0} (f : E → Row) (items : List E) (i : ℕ) (d : E) (rows new : List Row) (row : Row) → i < length items
    → rows ≡ map f (take i items) → row ≡ f (get_or items i d) → new ≡ rows ++ (row ∷ []) → new ≡ map f (take (i + 1) items)
row_more f items i d rows new row below so_far made pushed =
    pushed ∙ ap (λ rs. rs ++ (row ∷ [])) so_far ∙ ap (λ r. map f (take i items) ++ (r ∷ [])) made ∙ sym (map_more f items i d below)

-- the same of what a loop takes out
pub row_yielded : {E : Type 0} (f : E → Row) (done : List E) (next : E) (rows new : List Row) (row : Row)
    → rows ≡ map f done → row ≡ f next → new ≡ rows ++ (row ∷ []) → new ≡ map f (done ++ (next ∷ []))
row_yielded f done next rows new row so_far made pushed = pushed ∙ (λ i. so_far i ++ (made i ∷ [])) ∙ sym (map-append f done (next ∷ []))
