-- Private: how the terms of a change get their ids, by the terms that were known before it.
use Rattle.std.specs.Prelude.{◌≡◌, ℕ, suc, ◌<◌, ◌^◌, List, [], ◌∷◌, ◌++◌, map, length, Option, Some, None, slice_index_or}
use Rattle.std.specs.HashMap.{HashMap, get}
use Rattle.std.specs.List.{slice_get, AllZip, AllByRecursion}
use Rattle.term_core.specs.declared.term.Term.{Term}
use Rattle.term_core.specs.declared.term.Term.TheVariants.{Iri, Literal, Tagged, Blank}
use Rattle.base_core.specs.Lists.{Has, AreDistinct}
use Rattle.term_core.specs.Spelling.{spelling}
use Rattle.term_core.specs.Term.{IsTerm}
use Rattle.triple_keys.specs.declared.key.Ids.{Ids}
use Rattle.change_model.specs.declared.numbering.NewTerm.{NewTerm}
use Rattle.change_model.specs.declared.vocabulary.Places.{Places}
use Rattle.change_model.specs.declared.vocabulary.Vocabulary.{Vocabulary}
use Rattle.change_model.specs.History.{bound_term}
use Rattle.change_model.specs.Lexicon.{same_text, with_term}

-- the term has the id among the known terms: its place there, from 1
abbrev pub HasIdIn : List Term → Term → ℕ → Type 0
HasIdIn known term id = (place : ℕ) × (slice_get known place ≡ Some term) × (id ≡ suc place)

-- the id is the term's, and none exactly where it has none
abbrev pub IsIdIn : List Term → Term → Option ℕ → Type 0
IsIdIn known term (Some id) = HasIdIn known term id
IsIdIn known term None = (id : ℕ) → HasIdIn known term id → ⊥

-- the terms that are known before the time, so many; none of them is a node of this time
pub record IsBase (base : List Term) (number time : ℕ) : Type 0 where
  pub count : number ≡ length base
  pub rules : AllByRecursion IsTerm base
  pub earlier : (label : List ℕ) → Has base (Blank time label) → ⊥

-- terms whose labels are to be bound at the time keep the rules then
abbrev pub BindWell : ℕ → List Term → Type 0
BindWell time terms = AllByRecursion (λ term. IsTerm (bound_term time term)) terms

-- the ids of terms as they stand
abbrev pub AreIdsIn : List Term → List Term → List (Option ℕ) → Type 0
AreIdsIn known terms ids = AllZip (IsIdIn known) terms ids

-- the ids of the terms, bound at the time
abbrev pub AreIdsAt : ℕ → List Term → List Term → List (Option ℕ) → Type 0
AreIdsAt time known terms ids = AllZip (λ term id. IsIdIn known (bound_term time term) id) terms ids

-- the terms with the ids that follow this number, by their spellings
abbrev pub new_terms : ℕ → List Term → List NewTerm
new_terms number [] = []
new_terms number (term ∷ terms) = record { key = spelling term; id = suc number } ∷ new_terms (suc number) terms

-- the known terms, so many, begin with the first ones, and those behind these were brought
pub record IsNumbering (base known : List Term) (number : ℕ) (brought : List NewTerm) : Type 0 where
  pub grown : (new : List Term) × (known ≡ base ++ new)
  pub rules : AllByRecursion IsTerm known
  pub count : number ≡ length known
  pub entries : brought ≡ new_terms (length base) grown.0

-- they have the numbers that follow the first one, up to the last, which fits 64 bits
abbrev pub AreNextTo : ℕ → List NewTerm → ℕ → Type 0
AreNextTo first [] last = (first ≡ last) × (last < 2 ^ 64)
AreNextTo first (term ∷ terms) last = (term.id ≡ suc first) × AreNextTo (suc first) terms last

-- the terms are distinct, and each has its spelling
pub record AreSpelled (vocabulary : Vocabulary) : Type 0 where
  pub apart : AreDistinct vocabulary.terms
  pub spellings : vocabulary.spellings ≡ map spelling vocabulary.terms

-- the term is no label
abbrev pub IsUnlabelled : Term → Type 0
IsUnlabelled (Iri iri) = Unit {0}
IsUnlabelled (Literal form datatype) = Unit {0}
IsUnlabelled (Tagged form tag) = Unit {0}
IsUnlabelled (Blank at label) = ⊥

-- A term that comes next, and its id among the first terms. It isn't among the known ones unless it is among the first, or
-- bears a label, which others may bear too.
pub record IsNext (base known : List Term) (time : ℕ) (term : Term) (id : Option ℕ) : Type 0 where
  pub rules : IsTerm (bound_term time term)
  pub id_is : IsIdIn base (bound_term time term) id
  pub once : IsUnlabelled term → Has known term → Has base term

-- the ids while they are given: a numbering of the known terms, and the ids of the time's nodes by their labels
pub record IsGiving (base known : List Term) (time number : ℕ) (brought : List NewTerm) (nodes : List ℕ → Option ℕ) : Type 0 where
  pub numbering : IsNumbering base known number brought
  pub nodes_are : (label : List ℕ) → IsIdIn known (Blank time label) (nodes label)

-- the term got its id, and is known now
pub record IsGiven (base known : List Term) (time : ℕ) (term : Term) (id number : ℕ) (brought : List NewTerm) (nodes : List ℕ → Option ℕ) : Type 0 where
  pub given : HasIdIn (with_term known (bound_term time term)) (bound_term time term) id
  pub giving : IsGiving base (with_term known (bound_term time term)) time number brought nodes

-- the ids of the labels
abbrev pub nodes_of : {S : Type 0} → HashMap (List ℕ) ℕ S → List ℕ → Option ℕ
nodes_of nodes label = get same_text nodes label

abbrev pub three_ids : Option ℕ → Option ℕ → Option ℕ → Option Ids
three_ids None predicate object = None
three_ids (Some subject) None object = None
three_ids (Some subject) (Some predicate) None = None
three_ids (Some subject) (Some predicate) (Some object) = Some (record { subject = subject; predicate = predicate; object = object })

-- the ids at the places of a statement's terms, if all three have one
abbrev pub ids_at : List (Option ℕ) → Places → Option Ids
ids_at ids places = three_ids (slice_index_or ids places.subject None) (slice_index_or ids places.predicate None) (slice_index_or ids places.object None)
