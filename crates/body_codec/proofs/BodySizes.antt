-- How long a body is at most.
use Rattle.std.proofs.Common.{◌≡◌, ◌≤◌, ◌+◌, ◌*◌, ℕ, Bool, true, false, List, [], ◌∷◌, ◌++◌, length, ap, refl, ◌∙◌, sym, subst, arith}
use Rattle.std.proofs.lemmas.List.{length-append}
use Rattle.std.specs.Prelude.{if◌then◌else◌}
use Rattle.std.specs.List.{flat_map, list_any}
use Rattle.base_core.specs.Numbers.{length_bytes}
use Rattle.term_core.specs.declared.term.Term.{Term}
use Rattle.term_core.specs.declared.statement.Statement.{Statement}
use Rattle.term_core.specs.Spelling.{spelling}
use Rattle.change_model.specs.declared.history.Change.{Change}
use Rattle.change_model.specs.declared.history.Kind.{Kind}
use Rattle.change_model.specs.declared.vocabulary.Places.{Places}
use Rattle.change_model.specs.Lexicon.{same_term, with_term, with_terms, terms_of}
use Rattle.body_codec.specs.Body.{term_field, statement_field, head_and_terms, body, spelled_in, spelled_total, IsBodyOf}
use Rattle.body_codec.proofs.Changes.{ArePlaced-length, terms_of-length, with_terms-length}

four : (n : ℕ) → length (length_bytes n) ≡ 4
four n = refl

-- in how many bytes the terms are spelled
unfoldable size_of : Term → ℕ
size_of term = length (spelling term)

abbrev sizes_of : List Term → ℕ
sizes_of [] = 0
sizes_of (term ∷ terms) = size_of term + sizes_of terms

sizes_of-push : (terms : List Term) (term : Term) → sizes_of (terms ++ term ∷ []) ≡ sizes_of terms + size_of term
sizes_of-push [] term = omega arith
sizes_of-push (first ∷ terms) term = omega (arith, sizes_of-push terms term)

sizes_are : (statements : List Statement) → sizes_of (terms_of statements) ≡ spelled_total statements
unfolding size_of
sizes_are [] = refl
sizes_are (statement ∷ statements) = omega (arith, sizes_are statements)

known_size : (b : Bool) (known : List Term) (term : Term) → sizes_of (if b then known else known ++ term ∷ []) ≤ sizes_of known + size_of term
known_size true known term = omega arith
known_size false known term = omega (arith, sizes_of-push known term)

with_terms-size : (known terms : List Term) → sizes_of (with_terms known terms) ≤ sizes_of known + sizes_of terms
with_terms-size known [] = omega arith
with_terms-size known (term ∷ terms) =
    let one = known_size (list_any (same_term term) known) known term in
    let rest = with_terms-size (with_term known term) terms in
    omega arith

fields_size : (terms : List Term) → length (flat_map term_field terms) ≡ sizes_of terms + 4 * length terms
unfolding size_of
fields_size [] = refl
fields_size (term ∷ terms) =
    let rest = fields_size terms in
    omega (arith, rest, length-append (term_field term) (flat_map term_field terms), length-append (length_bytes (length (spelling term))) (spelling term), four (length (spelling term)))

places_size : (placed : List Places) → length (flat_map statement_field placed) ≡ 12 * length placed
places_size [] = refl
places_size (places ∷ placed) =
    let rest = places_size placed in
    omega (
      arith,
      rest,
      length-append (statement_field places) (flat_map statement_field placed),
      length-append (length_bytes places.subject) (length_bytes places.predicate ++ length_bytes places.object),
      length-append (length_bytes places.predicate) (length_bytes places.object),
      four places.subject,
      four places.predicate,
      four places.object,
    )

size_is : (kind : Kind) (terms : List Term) (placed : List Places) → length (body kind terms placed) ≡ 10 + (sizes_of terms + 4 * length terms) + 12 * length placed
size_is kind terms placed =
    omega (
      arith,
      length-append (head_and_terms kind (length terms) terms) (length_bytes (length placed) ++ flat_map statement_field placed),
      length-append (length_bytes (length placed)) (flat_map statement_field placed),
      length-append (length_bytes (length terms)) (flat_map term_field terms),
      four (length placed),
      four (length terms),
      fields_size terms,
      places_size placed,
    )

-- 10 bytes of counts, and for each statement its places and the lengths of at most three terms
pub body_size : (change : Change) (bytes : List ℕ) → IsBodyOf change bytes → length bytes ≤ spelled_total change.statements + 24 * length change.statements + 10
body_size change bytes is =
    let terms = is.vocabulary.terms in
    let placed = is.vocabulary.places in
    let size = size_is change.kind terms placed in
    let spelled : length bytes ≡ length (body change.kind terms placed) = ap length is.spelled in
    let whole : length bytes ≡ 10 + (sizes_of terms + 4 * length terms) + 12 * length placed = spelled ∙ size in
    let count = ArePlaced-length terms change.statements placed is.vocabulary_is.places in
    let few : length terms ≤ length change.statements * 3 =
    subst (λ (all : List Term). length all ≤ length change.statements * 3) (sym is.vocabulary_is.terms)
    (omega (arith, with_terms-length [] (terms_of change.statements), terms_of-length change.statements)) in
    let small : sizes_of terms ≤ spelled_total change.statements =
    subst (λ (all : List Term). sizes_of all ≤ spelled_total change.statements) (sym is.vocabulary_is.terms)
    (omega (arith, with_terms-size [] (terms_of change.statements), sizes_are change.statements)) in
    omega (arith, whole, count, few, small)
