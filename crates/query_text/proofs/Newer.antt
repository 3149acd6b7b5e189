-- The newest declaration of a prefix, from the newest on.
use Rattle.std.proofs.Common.{◌≡◌, ℕ, ◌+◌, ◌-◌, ◌<◌, Bool, true, false, cond, List, [], ◌∷◌, ◌++◌, length, take, get_or, Option, Some, None, refl, ap, ◌∙◌, arith}
use Rattle.std.proofs.lemmas.List.{take_more}
use Rattle.query_text.specs.declared.token.Token.{Token as Found}
use Rattle.query_text.specs.declared.class.Declaration.{Declaration as Declared}
use Rattle.query_text.specs.Building.{newest, declares, or_found}

newest_push : (ds : List Declared) (d : Declared) (name : List ℕ) → newest (ds ++ d ∷ []) name ≡ cond (declares d name) (Some d.iri) (newest ds name)
newest_push [] d name = refl
newest_push (x ∷ ds) d name =
    ap (λ (f : Option Found). or_found f (cond (declares x name) (Some x.iri) None)) (newest_push ds d name) ∙ by (declares d name)
  where
    by : (b : Bool) → or_found (cond b (Some d.iri) (newest ds name)) (cond (declares x name) (Some x.iri) None)
        ≡ cond b (Some d.iri) (or_found (newest ds name) (cond (declares x name) (Some x.iri) None))
    by true = refl
    by false = refl

-- with the last but so many declarations gone, it is the next one or stands before it
pub newest_at : (ds : List Declared) (d : Declared) (name : List ℕ) (newer : ℕ) → newer < length ds
    → newest (take (length ds - newer) ds) name
    ≡ cond (declares (get_or ds (length ds - 1 - newer) d) name) (Some (get_or ds (length ds - 1 - newer) d).iri) (newest (take (length ds - (newer + 1)) ds) name)
newest_at ds d name newer within =
    let at = length ds - 1 - newer in
    let here : length ds - newer ≡ at + 1 = omega arith in
    let before : at ≡ length ds - (newer + 1) = omega arith in
    let inside : at < length ds = omega arith in
    ap (λ (n : ℕ). newest (take n ds) name) here
    ∙ ap (λ (xs : List Declared). newest xs name) (take_more ds at d inside)
    ∙ newest_push (take at ds) (get_or ds at d) name
    ∙ ap (λ (n : ℕ). cond (declares (get_or ds at d) name) (Some (get_or ds at d).iri) (newest (take n ds) name)) before
