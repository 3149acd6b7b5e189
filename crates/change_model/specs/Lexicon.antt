-- The lexicon of a history: its terms by first appearance. The id of a term is its place there, from 1.
use Rattle.std.specs.Prelude.{◌≡◌, ℕ, zero, suc, Bool, false, ◌&&◌, List, [], ◌∷◌, ◌++◌, map, Option, Some, None, nat_eq, if◌then◌else◌}
use Rattle.std.specs.List.{list_any, flat_map, slice_get}
use Rattle.std.specs.Cmp.Lexicographic.{pointwise}
use Rattle.term_core.specs.declared.term.Term.{Term}
use Rattle.term_core.specs.declared.term.Term.TheVariants.{Iri, Literal, Tagged, Blank}
use Rattle.term_core.specs.declared.statement.Statement.{Statement}
use Rattle.triple_keys.specs.declared.key.Ids.{Ids}
use Rattle.change_model.specs.declared.history.Kind.TheVariants.{Add, Remove}
use Rattle.change_model.specs.declared.history.Kind.{Kind}
use Rattle.change_model.specs.declared.history.Change.{Change}
use Rattle.change_model.specs.declared.history.Committed.{Committed}
use Rattle.change_model.specs.History.{History, bound_at}

abbrev pub same_text : List ℕ → List ℕ → Bool
same_text one other = pointwise nat_eq one other

-- term equality, as a test
abbrev pub same_term : Term → Term → Bool
same_term (Iri iri) (Iri other) = same_text iri other
same_term (Literal form datatype) (Literal form2 datatype2) = same_text form form2 && same_text datatype datatype2
same_term (Tagged form tag) (Tagged form2 tag2) = same_text form form2 && same_text tag tag2
same_term (Blank at label) (Blank at2 label2) = nat_eq at at2 && same_text label label2
same_term one other = false

-- the known terms, and behind them this one where it is new
abbrev pub with_term : List Term → Term → List Term
with_term known term = if list_any (same_term term) known then known else known ++ term ∷ []

abbrev pub with_terms : List Term → List Term → List Term
with_terms known [] = known
with_terms known (term ∷ terms) = with_terms (with_term known term) terms

-- the terms of statements: of each its subject, its predicate and its object
abbrev pub terms_of : List Statement → List Term
terms_of statements = flat_map (λ statement. statement.subject ∷ statement.predicate ∷ statement.object ∷ []) statements

-- An Add brings the terms of its statements, with its labels bound. A Remove brings none.
abbrev pub brought : Kind → List Term → List Term
brought Add terms = terms
brought Remove terms = []

abbrev pub terms_at : ℕ → Change → List Term
terms_at time change = brought change.kind (terms_of (map (bound_at time) change.statements))

abbrev pub known_after : Option Committed → ℕ → List Term → List Term
known_after None time known = known
known_after (Some committed) time known = with_terms known (terms_at time committed.change)

-- the terms of the first so many changes, by first appearance
abbrev pub lexicon_at : History → ℕ → List Term
lexicon_at history zero = []
lexicon_at history (suc k) = known_after (slice_get history k) (suc k) (lexicon_at history k)

-- after the first k changes the term has this id
abbrev pub HasId : History → ℕ → Term → ℕ → Type 0
HasId history k term id = (place : ℕ) × (slice_get (lexicon_at history k) place ≡ Some term) × (id ≡ suc place)

-- after the first k changes the statement's terms have these ids
pub record HaveIds (history : History) (k : ℕ) (statement : Statement) (ids : Ids) : Type 0 where
  pub subject : HasId history k statement.subject ids.subject
  pub predicate : HasId history k statement.predicate ids.predicate
  pub object : HasId history k statement.object ids.object
