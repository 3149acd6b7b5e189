-- Private: what reading comes to, from what the private functions find.
use Rattle.std.specs.Prelude.{◌≡◌, ℕ, ◌+◌, Bool, true, false, ◌&&◌, List, ◌++◌, length, Option, Some, None}
use Rattle.std.specs.Str.{encode_utf8_all}
use Rattle.query_text.specs.declared.fault.QueryFault.{QueryFault}
use Rattle.query_text.specs.declared.fault.QueryFault.TheVariants as faults
use Rattle.query_text.specs.declared.phase.Phase.{Phase}
use Rattle.query_text.specs.declared.phase.Phase.TheVariants as phases
use Rattle.bgp_model.specs.declared.word.Word.{Word}
use Rattle.query_text.specs.Tokens.{Token}
use Rattle.query_text.specs.Parsing.{is_empty}
use Rattle.query_text.specs.Refusals.{IsLeftOut}

abbrev pub is_end : Phase → Bool
is_end phases.End = true
is_end _ = false

-- the closing brace was read, and nothing is left
abbrev pub is_whole : Phase → List ℕ → List ℕ → Bool
is_whole phase rest bad = is_end phase && (is_empty rest && is_empty bad)

-- in a text of so many bytes this is left behind the place
abbrev pub IsPlace : ℕ → List ℕ → List ℕ → ℕ → Type 0
IsPlace size rest bad place = size ≡ place + (length (encode_utf8_all rest) + length bad)

abbrev pub fault_at : ℕ → Option Word → QueryFault
fault_at place None = faults.At place
fault_at place (Some word) = faults.LeftOut place word

-- the token is refused where it stands, by the word that it stands for
pub record IsRefusal (size : ℕ) (token : Token) (behind bad : List ℕ) (fault : QueryFault) : Type 0 where
  pub place : ℕ
  pub word : Option Word
  pub is : fault ≡ fault_at place word
  pub place_is : IsPlace size (token.characters ++ behind) bad place
  pub word_is : IsLeftOut token word
