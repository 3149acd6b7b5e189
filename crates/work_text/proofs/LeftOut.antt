-- The line of a query that is refused at a word that is left out.
use Rattle.std.proofs.Common.{◌≡◌, ℕ, List, [], ◌∷◌, ◌++◌, ap, sym, ◌∙◌, codes, append_assoc}
use Rattle.std.specs.Prelude.{Result, Ok, Err, OnOk}

pub left_out : {T E : Type 0} (result : Result T E) (old new text said word place : List ℕ) → said ≡ word
    → text ≡ codes "refused query left out " ++ (said ++ (codes " at " ++ (place ++ 10 ∷ []))) → OnOk result (new ≡ old ++ text)
    → OnOk result (new ≡ old ++ (codes "refused query left out " ++ (word ++ (codes " at " ++ place)) ++ 10 ∷ []))
left_out (Ok t) old new text said word place same is h =
    h ∙ ap (λ (x : List ℕ). old ++ x) (is ∙ ap (λ (x : List ℕ). codes "refused query left out " ++ (x ++ (codes " at " ++ (place ++ 10 ∷ [])))) same
    ∙ ap (λ (x : List ℕ). codes "refused query left out " ++ x) (sym (append_assoc word (codes " at " ++ place) (10 ∷ []))))
left_out (Err e) old new text said word place same is h = h
