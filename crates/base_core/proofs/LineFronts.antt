-- The front of a first line that is already read.
use Rattle.std.proofs.Common.{◌≡◌, ◌≢◌, ℕ, List, [], ◌∷◌, ◌++◌, refl, ap}
use Rattle.base_core.specs.Lines.{onto_first}

abbrev pub onto_front : List ℕ → List (List ℕ) → List (List ℕ)
onto_front [] lines = lines
onto_front (b ∷ front) lines = onto_first b (onto_front front lines)

-- one more byte
pub onto_front-more : (front : List ℕ) (b : ℕ) (lines : List (List ℕ)) → onto_front (front ++ b ∷ []) lines ≡ onto_front front (onto_first b lines)
onto_front-more [] b lines = refl
onto_front-more (c ∷ front) b lines = ap (onto_first c) (onto_front-more front b lines)

-- at an end the front is the line
pub onto_front-end : (front : List ℕ) (lines : List (List ℕ)) → onto_front front ([] ∷ lines) ≡ front ∷ lines
onto_front-end [] lines = refl
onto_front-end (c ∷ front) lines = ap (onto_first c) (onto_front-end front lines)

-- and where the text ends without one too
pub onto_front-rest : (front : List ℕ) → front ≢ [] → onto_front front [] ≡ front ∷ []
onto_front-rest [] some = absurd (some refl)
onto_front-rest (c ∷ []) some = refl
onto_front-rest (c ∷ d ∷ front) some = ap (onto_first c) (onto_front-rest (d ∷ front) (λ e. cc))
