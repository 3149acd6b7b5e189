-- How a term is spelled in bytes, and the first field of bytes that spell none.
use Rattle.std.specs.Prelude.{◌≡◌, ◌<◌, ◌^◌, ◌⊎◌, ℕ, List, [], ◌∷◌, ◌++◌, length}
use Rattle.std.specs.Int.{w32, w64, to_be_bytes}
use Rattle.std.specs.Str.{IsUtf8}
use Rattle.term_core.specs.declared.term.Term.{Term}
use Rattle.term_core.specs.declared.term.Term.TheVariants.{Iri, Literal, Tagged, Blank}
use Rattle.term_core.specs.Term.{IsIri, IsTag, IsLabel, IsForm}

-- the length of a text as four bytes, the highest first, and the text
abbrev pub counted : List ℕ → List ℕ
counted text = to_be_bytes w32 (length text) ++ text

-- the tag byte, and then the fields
abbrev pub spelling : Term → List ℕ
spelling (Iri iri) = 1 ∷ iri
spelling (Literal form datatype) = 2 ∷ (counted form ++ datatype)
spelling (Tagged form tag) = 3 ∷ (counted form ++ tag)
spelling (Blank at label) = 4 ∷ (to_be_bytes w64 at ++ label)

-- the tag bytes of the four kinds
abbrev pub IsKind : ℕ → Type 0
IsKind b = (b ≡ 1) ⊎ (b ≡ 2) ⊎ (b ≡ 3) ⊎ (b ≡ 4)

-- the kinds that have a form
abbrev pub HasForm : ℕ → Type 0
HasForm b = (b ≡ 2) ⊎ (b ≡ 3)

-- The front is the tag byte and whole fields that keep their rules, or nothing. The field behind it breaks its rule.
pub data BreaksRule (front rest : List ℕ) : Type 0 where
  wrong_kind : front ≡ [] → ((b : ℕ) (behind : List ℕ) → rest ≡ b ∷ behind → ¬ IsKind b) → BreaksRule front rest
  wrong_iri : front ≡ 1 ∷ [] → ¬ IsIri rest → BreaksRule front rest
  short_length : (b : ℕ) → HasForm b → front ≡ b ∷ [] → length rest < 4 → BreaksRule front rest
  wrong_form : (b n : ℕ) → HasForm b → n < 2 ^ 32 → front ≡ b ∷ to_be_bytes w32 n
      → ((text behind : List ℕ) → rest ≡ text ++ behind → length text ≡ n → ¬ IsUtf8 text) → BreaksRule front rest
  wrong_datatype : (text : List ℕ) → IsForm text → front ≡ 2 ∷ counted text → ¬ IsIri rest → BreaksRule front rest
  wrong_tag : (text : List ℕ) → IsForm text → front ≡ 3 ∷ counted text → ¬ IsTag rest → BreaksRule front rest
  short_time : front ≡ 4 ∷ [] → length rest < 8 → BreaksRule front rest
  wrong_label : (time : List ℕ) → length time ≡ 8 → front ≡ 4 ∷ time → ¬ IsLabel rest → BreaksRule front rest

-- the first field that breaks its rule begins at this offset
pub record IsFirstBadField (bytes : List ℕ) (at : ℕ) : Type 0 where
  pub front : List ℕ
  pub rest : List ℕ
  pub cut : bytes ≡ front ++ rest
  pub place : at ≡ length front
  pub broken : BreaksRule front rest

-- the form, if there is one, has fewer than 2 ^ 32 bytes
abbrev pub HasShortForm : Term → Type 0
HasShortForm (Iri iri) = Unit {0}
HasShortForm (Literal form datatype) = length form < 2 ^ 32
HasShortForm (Tagged form tag) = length form < 2 ^ 32
HasShortForm (Blank at label) = Unit {0}
