-- Terms and statements, and the rules on the characters of their parts (RDF 1.1 N-Triples, section 7, its grammar).
use Rattle.std.specs.Prelude.{◌≢◌, ◌≡◌, ℕ, ◌<◌, ◌^◌, Bool, ◌||◌, List, [], ◌∷◌, ◌++◌, length, IsTrue, ◌==◌}
use Rattle.std.specs.List.{list_all, flat_map, AllByRecursion}
use Rattle.std.specs.Str.{IsUtf8, chars}
use Rattle.term_core.specs.declared.term.Term.{Term}
use Rattle.term_core.specs.declared.term.Term.TheVariants.{Iri, Literal, Tagged, Blank}
use Rattle.term_core.specs.declared.statement.Statement.{Statement}
use Rattle.term_core.specs.Characters.{is_digit, is_lower_letter, is_iri_character, is_start_character, is_name_character}

-- what may stand between the brackets of an IRIREF
pub record IsIri (iri : List ℕ) : Type 0 where
  pub utf8 : IsUtf8 iri
  pub each : IsTrue (list_all is_iri_character (chars iri))

-- one or more characters of a class
abbrev pub IsGroup : (ℕ → Bool) → List ℕ → Type 0
IsGroup class group = (group ≢ []) × IsTrue (list_all class group)

-- a LANGTAG in lower case, without its @: letters, and then any number of groups of letters and digits, each behind a hyphen
pub record IsTag (tag : List ℕ) : Type 0 where
  pub language : List ℕ
  pub subtags : List (List ℕ)
  pub spelled : tag ≡ language ++ flat_map (λ subtag. 45 ∷ subtag) subtags
  pub letters : IsGroup is_lower_letter language
  pub groups : AllByRecursion (IsGroup (λ c. is_lower_letter c || is_digit c)) subtags

-- the last of the characters, if there is one, is no dot
abbrev pub EndsWithoutDot : List ℕ → Type 0
EndsWithoutDot [] = Unit {0}
EndsWithoutDot (c ∷ []) = c ≢ 46
EndsWithoutDot (c ∷ d ∷ cs) = EndsWithoutDot (d ∷ cs)

-- the characters of a BLANK_NODE_LABEL without its _:
abbrev pub AreLabelCharacters : List ℕ → Type 0
AreLabelCharacters [] = ⊥
AreLabelCharacters (c ∷ cs) =
    IsTrue (is_start_character c || is_digit c) × IsTrue (list_all (λ d. is_name_character d || d == 46) cs) × EndsWithoutDot cs

pub record IsLabel (label : List ℕ) : Type 0 where
  pub utf8 : IsUtf8 label
  pub shape : AreLabelCharacters (chars label)

-- the form of a literal is any text of fewer than 2 ^ 32 bytes
pub record IsForm (form : List ℕ) : Type 0 where
  pub utf8 : IsUtf8 form
  pub short : length form < 2 ^ 32

-- a term whose parts keep the rules on their characters
abbrev pub IsTerm : Term → Type 0
IsTerm (Iri iri) = IsIri iri
IsTerm (Literal form datatype) = IsForm form × IsIri datatype
IsTerm (Tagged form tag) = IsForm form × IsTag tag
IsTerm (Blank at label) = (at < 2 ^ 64) × IsLabel label

abbrev pub MayBeSubject : Term → Type 0
MayBeSubject (Iri iri) = Unit {0}
MayBeSubject (Literal form datatype) = ⊥
MayBeSubject (Tagged form tag) = ⊥
MayBeSubject (Blank at label) = Unit {0}

abbrev pub MayBePredicate : Term → Type 0
MayBePredicate (Iri iri) = Unit {0}
MayBePredicate (Literal form datatype) = ⊥
MayBePredicate (Tagged form tag) = ⊥
MayBePredicate (Blank at label) = ⊥

-- an RDF triple (RDF 1.1 Concepts, section 3.1): a literal is no subject, and a predicate is an IRI
pub record IsStatement (statement : Statement) : Type 0 where
  pub subject : IsTerm statement.subject
  pub subject_kind : MayBeSubject statement.subject
  pub predicate : IsTerm statement.predicate
  pub predicate_kind : MayBePredicate statement.predicate
  pub object : IsTerm statement.object
