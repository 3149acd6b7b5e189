-- The first field of bytes that breaks its rule, and when each fault of bytes that should be a body comes.
use Rattle.std.specs.Prelude.{◌≡◌, ◌≢◌, ◌<◌, ◌≤◌, ◌+◌, ◌^◌, ℕ, List, [], ◌∷◌, ◌++◌, length}
use Rattle.base_core.specs.Numbers.{length_bytes}
use Rattle.term_core.specs.declared.term.Term.{Term}
use Rattle.base_core.specs.Lists.{Has}
use Rattle.term_core.specs.Spelling.{spelling}
use Rattle.change_model.specs.declared.history.Change.{Change}
use Rattle.change_model.specs.declared.history.Kind.{Kind}
use Rattle.change_model.specs.declared.vocabulary.Places.{Places}
use Rattle.body_codec.specs.declared.fault.BodyFault.{BodyFault}
use Rattle.body_codec.specs.declared.fault.BodyFault.TheVariants.{NoMemory, BadBody}
use Rattle.body_codec.specs.Body.{kind_byte, statement_field, head_and_terms, head_terms_and_statements, body, IsTermOf, AreTermsOf, IsPlacing, ArePlacings, named, HasSpelling, IsBodyOf}

-- the bytes begin with the fields up to the count of terms and with these terms, which keep their rules
pub record BeginWithTerms (bytes : List ℕ) (kind : Kind) (count : ℕ) (terms : List Term) (rest : List ℕ) : Type 0 where
  pub cut : bytes ≡ head_and_terms kind count terms ++ rest
  pub fits : count < 2 ^ 32
  pub are : AreTermsOf kind terms

-- the bytes begin with all terms, the count of statements and with these statements, which keep their rules
pub record BeginWithStatements (bytes : List ℕ) (kind : Kind) (terms : List Term) (count : ℕ) (places : List Places) (rest : List ℕ) : Type 0 where
  pub cut : bytes ≡ head_terms_and_statements kind terms count places ++ rest
  pub fits : length terms < 2 ^ 32
  pub few : count ≤ 100000
  pub are : AreTermsOf kind terms
  pub placed : ArePlacings terms [] places

-- the rest begins with the spelling of a term of this length that may stand in the body and doesn't stand there yet
pub record BeginsWithTerm (kind : Kind) (before : List Term) (size : ℕ) (rest : List ℕ) : Type 0 where
  pub term : Term
  pub behind : List ℕ
  pub is : IsTermOf kind term
  pub long : length (spelling term) ≡ size
  pub new : ¬ Has before term
  pub cut : rest ≡ spelling term ++ behind

-- The fields before the one at this offset keep their rules, and it breaks its own. Where all keep theirs, a term that
-- is never used is a fault of the count of statements, and else bytes behind the last statement are one.
pub data IsFirstBadField (bytes : List ℕ) (at : ℕ) : Type 0 where
  -- the bytes are none, or begin with another byte
  wrong_format : at ≡ 0 → ((rest : List ℕ) → bytes ≢ 1 ∷ rest) → IsFirstBadField bytes at
  -- no kind, or an unknown one
  wrong_kind : (rest : List ℕ) → bytes ≡ 1 ∷ rest
      → at ≡ 1 → ((kind : Kind) (behind : List ℕ) → rest ≢ kind_byte kind ∷ behind) → IsFirstBadField bytes at
  -- the count of terms ends early
  short_count : (kind : Kind) (rest : List ℕ) → bytes ≡ 1 ∷ kind_byte kind ∷ rest
      → at ≡ 2 → length rest < 4 → IsFirstBadField bytes at
  -- the length of a term ends early
  short_length : (kind : Kind) (count : ℕ) (terms : List Term) (rest : List ℕ) → BeginWithTerms bytes kind count terms rest → length terms < count
      → at ≡ length (head_and_terms kind count terms) → length rest < 4 → IsFirstBadField bytes at
  -- a spelling ends early, is that of no term, of one that may not stand here, or of an earlier one
  wrong_spelling : (kind : Kind) (count : ℕ) (terms : List Term) (size : ℕ) (rest : List ℕ)
      → BeginWithTerms bytes kind count terms (length_bytes size ++ rest) → length terms < count → size < 2 ^ 32
      → at ≡ length (head_and_terms kind count terms) + 4 → ¬ BeginsWithTerm kind terms size rest → IsFirstBadField bytes at
  -- the count of statements ends early, or is above the limit
  wrong_count : (kind : Kind) (terms : List Term) (rest : List ℕ) → BeginWithTerms bytes kind (length terms) terms rest
      → at ≡ length (head_and_terms kind (length terms) terms)
      → ((count : ℕ) (behind : List ℕ) → count ≤ 100000 → rest ≢ length_bytes count ++ behind) → IsFirstBadField bytes at
  -- a statement ends early, or one of its places names no term, one that may not stand there, or one out of its turn
  wrong_statement : (kind : Kind) (terms : List Term) (count : ℕ) (places : List Places) (rest : List ℕ)
      → BeginWithStatements bytes kind terms count places rest → length places < count
      → at ≡ length (head_terms_and_statements kind terms count places)
      → ((next : Places) (behind : List ℕ) → IsPlacing terms (named places) next → rest ≢ statement_field next ++ behind) → IsFirstBadField bytes at
  -- no statement names one of the terms
  unused_term : (kind : Kind) (terms : List Term) (places : List Places) (rest : List ℕ)
      → BeginWithStatements bytes kind terms (length places) places rest
      → at ≡ length (head_and_terms kind (length terms) terms)
      → (place : ℕ) → place < length terms → ¬ Has (named places) place → IsFirstBadField bytes at
  -- all keep their rules, and something follows
  byte_too_many : (kind : Kind) (terms : List Term) (places : List Places) (rest : List ℕ)
      → BeginWithStatements bytes kind terms (length places) places rest → ((place : ℕ) → place < length terms → Has (named places) place)
      → at ≡ length (body kind terms places) → rest ≢ [] → IsFirstBadField bytes at

abbrev pub IsNoMemory : BodyFault → Type 0
IsNoMemory NoMemory = Unit {0}
IsNoMemory (BadBody at) = ⊥

-- want of memory comes freely, and bytes are called bad where no change has them as its body, at the first bad field
abbrev pub IsBodyFault : List ℕ → BodyFault → Type 0
IsBodyFault bytes NoMemory = Unit {0}
IsBodyFault bytes (BadBody at) = IsFirstBadField bytes at × ((change : Change) → HasSpelling change → IsBodyOf change bytes → ⊥)

-- want of memory, or a fault at this offset
abbrev pub IsNoMemoryOrAt : ℕ → BodyFault → Type 0
IsNoMemoryOrAt at NoMemory = Unit {0}
IsNoMemoryOrAt at (BadBody place) = place ≡ at
