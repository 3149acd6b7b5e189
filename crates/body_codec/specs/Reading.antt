-- Private: what the private functions that read a body find.
use Rattle.std.specs.Prelude.{◌≡◌, ◌≢◌, ◌↔◌, ◌<◌, ◌≤◌, ◌+◌, ◌^◌, ℕ, List, [], ◌++◌, length, map}
use Rattle.base_core.specs.Numbers.{length_bytes}
use Rattle.std.specs.List.{flat_map}
use Rattle.term_core.specs.declared.statement.Statement.{Statement}
use Rattle.term_core.specs.declared.term.Term.{Term}
use Rattle.base_core.specs.Lists.{Has}
use Rattle.term_core.specs.Spelling.{spelling}
use Rattle.change_model.specs.declared.history.Kind.{Kind}
use Rattle.change_model.specs.declared.vocabulary.Places.{Places}
use Rattle.change_model.specs.Entries.{ArePlaced}
use Rattle.change_model.specs.Vocabulary.{StandsAt}
use Rattle.body_codec.specs.declared.fault.BodyFault.{BodyFault}
use Rattle.body_codec.specs.declared.fault.BodyFault.TheVariants.{NoMemory, BadBody}
use Rattle.body_codec.specs.declared.read_statements.Named.{Named}
use Rattle.body_codec.specs.Body.{statement_field, numbers, named, IsTermOf, IsPlacing, ArePlacings}
use Rattle.body_codec.specs.Faults.{IsFirstBadField, BeginsWithTerm}

-- the bytes are bad, and here, or memory ran out
abbrev pub IsBadBodyAt : List ℕ → BodyFault → Type 0
IsBadBodyAt bytes NoMemory = Unit {0}
IsBadBodyAt bytes (BadBody at) = IsFirstBadField bytes at

-- ---- terms

-- The bytes stand at the offset behind these terms, and don't begin with the field of one more. The fault is that of its
-- length or of its spelling.
pub data IsBadTerm (kind : Kind) (before : List Term) (bytes : List ℕ) (at place : ℕ) : Type 0 where
  no_length : place ≡ at → length bytes < 4 → IsBadTerm kind before bytes at place
  no_spelling : (size : ℕ) (rest : List ℕ) → bytes ≡ length_bytes size ++ rest → size < 2 ^ 32
      → place ≡ at + 4 → ¬ BeginsWithTerm kind before size rest → IsBadTerm kind before bytes at place

abbrev pub IsBadTermAt : Kind → List Term → List ℕ → ℕ → BodyFault → Type 0
IsBadTermAt kind before bytes at NoMemory = Unit {0}
IsBadTermAt kind before bytes at (BadBody place) = IsBadTerm kind before bytes at place

-- no term that may stand in a change of this kind has this spelling, which stands at the offset
abbrev pub IsNoTermAt : Kind → List ℕ → ℕ → BodyFault → Type 0
IsNoTermAt kind spelled at NoMemory = Unit {0}
IsNoTermAt kind spelled at (BadBody place) = (place ≡ at) × ((term : Term) → IsTermOf kind term → spelled ≢ spelling term)

-- the spellings of these terms, and no others
abbrev pub AreSpellings : List Term → List (List ℕ) → Type 0
AreSpellings terms spellings = (spelled : List ℕ) → Has spellings spelled ↔ Has (map spelling terms) spelled

-- ---- statements

-- the least place that these don't name: they name those below it, and no others
abbrev pub IsNext : List ℕ → ℕ → Type 0
IsNext before next = (place : ℕ) → Has before place ↔ (place < next)

-- the terms stand at the places
pub record AreNamed (terms : List Term) (places : Places) (found : Named) : Type 0 where
  pub subject : StandsAt terms found.subject.now places.subject
  pub predicate : StandsAt terms found.predicate.now places.predicate
  pub object : StandsAt terms found.object.now places.object

-- in how many bytes they are spelled
abbrev pub named_in : Named → ℕ
named_in found = length (spelling found.subject.now) + length (spelling found.predicate.now) + length (spelling found.object.now)

pub record IsStatementOf (found : Named) (statement : Statement) : Type 0 where
  pub subject : statement.subject ≡ found.subject.now
  pub predicate : statement.predicate ≡ found.predicate.now
  pub object : statement.object ≡ found.object.now

-- the places fit four bytes each
pub record AreSmall (places : Places) : Type 0 where
  pub subject : places.subject < 2 ^ 32
  pub predicate : places.predicate < 2 ^ 32
  pub object : places.object < 2 ^ 32

-- The bytes begin with the field of a statement of these terms. Where `next` is the least place that isn't named before,
-- the statement's places are in their turn, and `after` is the least one that isn't named with them.
pub record IsStatementIn (terms : List Term) (next : ℕ) (bytes : List ℕ) (found : Named) (after : ℕ) (rest : List ℕ) : Type 0 where
  pub places : Places
  pub cut : bytes ≡ statement_field places ++ rest
  pub named_are : AreNamed terms places found
  pub placing : (before : List ℕ) → IsNext before next → IsPlacing terms before places
  pub next_is : (before : List ℕ) → IsNext before next → IsNext (before ++ numbers places) after

-- the bytes begin with the fields of these statements, which keep their rules; `next` is the least place that they don't name
pub record AreReadStatements (terms : List Term) (bytes : List ℕ) (statements : List Statement) (next : ℕ) (rest : List ℕ) : Type 0 where
  pub places : List Places
  pub cut : bytes ≡ flat_map statement_field places ++ rest
  pub placed : ArePlaced terms statements places
  pub placings : ArePlacings terms [] places
  pub next_is : IsNext (named places) next

-- The bytes stand at the offset. They begin with fewer statements than the count, and what follows these is none.
pub record IsBadStatement (terms : List Term) (count : ℕ) (bytes : List ℕ) (start place : ℕ) : Type 0 where
  pub places : List Places
  pub rest : List ℕ
  pub cut : bytes ≡ flat_map statement_field places ++ rest
  pub placings : ArePlacings terms [] places
  pub fewer : length places < count
  pub place_is : place ≡ start + length (flat_map statement_field places)
  pub bad : (next : Places) (behind : List ℕ) → IsPlacing terms (named places) next → rest ≢ statement_field next ++ behind

abbrev pub IsBadStatementAt : List Term → ℕ → List ℕ → ℕ → BodyFault → Type 0
IsBadStatementAt terms count bytes start NoMemory = Unit {0}
IsBadStatementAt terms count bytes start (BadBody place) = IsBadStatement terms count bytes start place

-- the bytes are the count of the statements and their fields, which name all terms
pub record AreAllStatements (terms : List Term) (bytes : List ℕ) (statements : List Statement) : Type 0 where
  pub places : List Places
  pub cut : bytes ≡ length_bytes (length places) ++ flat_map statement_field places
  pub few : length places ≤ 100000
  pub placed : ArePlaced terms statements places
  pub placings : ArePlacings terms [] places
  pub used : (place : ℕ) → place < length terms → Has (named places) place
