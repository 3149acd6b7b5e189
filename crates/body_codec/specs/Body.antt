-- The body of a change, format 1: its bytes, and the rules that its fields keep.
use Rattle.std.specs.Prelude.{◌≡◌, ◌<◌, ◌≤◌, ◌+◌, ◌^◌, ℕ, List, [], ◌∷◌, ◌++◌, length, Some}
use Rattle.base_core.specs.Numbers.{length_bytes}
use Rattle.std.specs.List.{flat_map, slice_get, AllByRecursion}
use Rattle.term_core.specs.declared.statement.Statement.{Statement}
use Rattle.term_core.specs.declared.term.Term.{Term}
use Rattle.term_core.specs.declared.term.Term.TheVariants.{Iri, Literal, Tagged, Blank}
use Rattle.base_core.specs.Lists.{Has, AreDistinct}
use Rattle.term_core.specs.Spelling.{spelling}
use Rattle.term_core.specs.Term.{IsTerm, MayBeSubject, MayBePredicate, IsStatement}
use Rattle.change_model.specs.declared.history.Change.{Change}
use Rattle.change_model.specs.declared.history.Kind.{Kind}
use Rattle.change_model.specs.declared.history.Kind.TheVariants.{Add, Remove}
use Rattle.change_model.specs.declared.vocabulary.Places.{Places}
use Rattle.change_model.specs.declared.vocabulary.Vocabulary.{Vocabulary}
use Rattle.change_model.specs.Entries.{IsVocabularyOf}
use Rattle.change_model.specs.Lexicon.{terms_of}

-- ---- the bytes

abbrev pub kind_byte : Kind → ℕ
kind_byte Add = 1
kind_byte Remove = 2

-- the length of a term's spelling, and the spelling
abbrev pub term_field : Term → List ℕ
term_field term = length_bytes (length (spelling term)) ++ spelling term

-- a statement: the places of its three terms
abbrev pub statement_field : Places → List ℕ
statement_field places = length_bytes places.subject ++ (length_bytes places.predicate ++ length_bytes places.object)

-- the fields up to the count of terms, and terms behind them
abbrev pub head_and_terms : Kind → ℕ → List Term → List ℕ
head_and_terms kind count terms = 1 ∷ kind_byte kind ∷ (length_bytes count ++ flat_map term_field terms)

-- the same with all terms, and then the count of statements and statements
abbrev pub head_terms_and_statements : Kind → List Term → ℕ → List Places → List ℕ
head_terms_and_statements kind terms count places =
    head_and_terms kind (length terms) terms ++ (length_bytes count ++ flat_map statement_field places)

-- the body of a change of this kind with these terms, and with statements whose terms stand at these places
abbrev pub body : Kind → List Term → List Places → List ℕ
body kind terms places = head_terms_and_statements kind terms (length places) places

-- in how many bytes the terms of a statement are spelled
abbrev pub spelled_in : Statement → ℕ
spelled_in statement = length (spelling statement.subject) + length (spelling statement.predicate) + length (spelling statement.object)

-- and those of all statements, a term once for each time that one of them names it
abbrev pub spelled_total : List Statement → ℕ
spelled_total [] = 0
spelled_total (statement ∷ statements) = spelled_in statement + spelled_total statements

-- the bytes are the body of the change: its terms by first appearance, and where those of each statement stand
pub record IsBodyOf (change : Change) (bytes : List ℕ) : Type 0 where
  pub vocabulary : Vocabulary
  pub vocabulary_is : IsVocabularyOf change.statements vocabulary
  pub spelled : bytes ≡ body change.kind vocabulary.terms vocabulary.places

-- ---- the changes that have a body

-- a blank node isn't bound yet, and a Remove has none
abbrev pub MayStandIn : Kind → Term → Type 0
MayStandIn kind (Iri iri) = Unit {0}
MayStandIn kind (Literal form datatype) = Unit {0}
MayStandIn kind (Tagged form tag) = Unit {0}
MayStandIn Add (Blank at label) = at ≡ 0
MayStandIn Remove (Blank at label) = ⊥

-- the term keeps the rules, may stand in a change of this kind, and the length of its spelling fits four bytes
pub record IsTermOf (kind : Kind) (term : Term) : Type 0 where
  pub is : IsTerm term
  pub may : MayStandIn kind term
  pub short : length (spelling term) < 2 ^ 32

-- the statements of the change are triples, at most 100,000, and their terms may stand in it
pub record HasSpelling (change : Change) : Type 0 where
  pub triples : AllByRecursion IsStatement change.statements
  pub few : length change.statements ≤ 100000
  pub terms : AllByRecursion (IsTermOf change.kind) (terms_of change.statements)

-- ---- the rules on the fields of a body

-- the terms may stand in a body of this kind, and none stands twice
pub record AreTermsOf (kind : Kind) (terms : List Term) : Type 0 where
  pub each : AllByRecursion (IsTermOf kind) terms
  pub apart : AreDistinct terms

-- the places of a statement in sequence
abbrev pub numbers : Places → List ℕ
numbers places = places.subject ∷ places.predicate ∷ places.object ∷ []

-- a term that may do so stands at the place
abbrev pub NamesA : (Term → Type 0) → List Term → ℕ → Type 0
NamesA May terms place = (term : Term) × (slice_get terms place ≡ Some term) × May term

abbrev pub IsAny : Term → Type 0
IsAny term = Unit {0}

-- each lower place is named before: the place is at most the least that is not
abbrev pub IsInTurn : List ℕ → ℕ → Type 0
IsInTurn before place = (lower : ℕ) → lower < place → Has before lower

-- the three places of a statement, each in its turn
pub record AreInTurn (before : List ℕ) (places : Places) : Type 0 where
  pub subject : IsInTurn before places.subject
  pub predicate : IsInTurn (before ++ places.subject ∷ []) places.predicate
  pub object : IsInTurn (before ++ places.subject ∷ places.predicate ∷ []) places.object

-- they name terms that may stand in a statement so
pub record NameTerms (terms : List Term) (places : Places) : Type 0 where
  pub subject : NamesA MayBeSubject terms places.subject
  pub predicate : NamesA MayBePredicate terms places.predicate
  pub object : NamesA IsAny terms places.object

-- the places of a statement, where these places are named before it
pub record IsPlacing (terms : List Term) (before : List ℕ) (places : Places) : Type 0 where
  pub names : NameTerms terms places
  pub turns : AreInTurn before places

-- the same of each of the statements
abbrev pub ArePlacings : List Term → List ℕ → List Places → Type 0
ArePlacings terms before [] = Unit {0}
ArePlacings terms before (places ∷ more) = IsPlacing terms before places × ArePlacings terms (before ++ numbers places) more

-- all places that the statements name
abbrev pub named : List Places → List ℕ
named places = flat_map numbers places
