-- Private: what the private functions of the reader find.
use Rattle.std.specs.Prelude.{◌≡◌, ℕ, Bool, true, false, not, ◌==◌, if◌then◌else◌, List, [], ◌∷◌, ◌++◌, length, take, drop, Option, Some, None}
use Rattle.std.specs.Char.{encode_utf8, IsScalar}
use Rattle.query_text.specs.declared.kind.TokenKind.{TokenKind}
use Rattle.query_text.specs.declared.token.Token.{Token as Found}
use Rattle.query_text.specs.Tokens.{Token}
use Rattle.query_text.specs.Characters.{is_white, is_line_end}
use Rattle.query_text.specs.Texts.{behind_gap, BeginsWith, BeginsWithNone}

abbrev pub BeginsNoCharacter : List ℕ → Type 0
BeginsNoCharacter bytes = (c : ℕ) (rest : List ℕ) → IsScalar c → bytes ≡ encode_utf8 c ++ rest → ⊥

-- the token that was found
abbrev pub token_of : Found → Token
token_of found = record { kind = found.kind; characters = found.characters.now }

-- the first tokens of the text, each with what stands behind it, and what is left
abbrev pub AreCut : List ℕ → List Found → List ℕ → Type 0
AreCut text [] rest = rest ≡ behind_gap false text
AreCut text (found ∷ others) rest = BeginsWith (behind_gap false text) (token_of found) found.behind.now × AreCut found.behind.now others rest

-- whether a comment goes on behind this character of white space or of a comment
abbrev pub in_gap : Bool → ℕ → Option Bool
in_gap true c = Some (not (is_line_end c))
in_gap false c = if is_white c then Some false else (if c == 35 then Some true else None)

-- what is found is the first token of the text
abbrev pub IsFirst : List ℕ → Option (TokenKind × ℕ) → Type 0
IsFirst text None = BeginsWithNone text
IsFirst text (Some found) =
    (length (take found.1 text) ≡ found.1) × BeginsWith text (record { kind = found.0; characters = take found.1 text }) (drop found.1 text)
