-- How a text is cut into tokens (SPARQL 1.1 Query Language, sections 19.1 to 19.3 and 19.8): the longest token wins, with white space and comments between.
use Rattle.std.specs.Prelude.{◌≡◌, ℕ, ◌+◌, Bool, true, false, not, List, [], ◌∷◌, ◌++◌, length, IsTrue, ◌==◌, if◌then◌else◌}
use Rattle.std.specs.Char.{encode_utf8, IsScalar}
use Rattle.std.specs.Str.{encode_utf8_all, all_scalars}
use Rattle.query_text.specs.declared.kind.TokenKind.{TokenKind}
use Rattle.query_text.specs.Characters.{is_white, is_line_end}
use Rattle.query_text.specs.Tokens.{IsOf, Token, IsToken}

-- The bytes are these characters in UTF-8, and behind them nothing, or bytes that begin no character.
pub record AreCharacters (bytes characters bad : List ℕ) : Type 0 where
  pub spelled : bytes ≡ encode_utf8_all characters ++ bad
  pub scalars : IsTrue (all_scalars characters)
  pub bad_is : (c : ℕ) (rest : List ℕ) → IsScalar c → bad ≡ encode_utf8 c ++ rest → ⊥

-- behind white space and comments, where a comment, from # to the end of its line, has begun or not
abbrev pub behind_gap : Bool → List ℕ → List ℕ
behind_gap comment [] = []
behind_gap true (c ∷ cs) = behind_gap (not (is_line_end c)) cs
behind_gap false (c ∷ cs) = if is_white c then behind_gap false cs else (if c == 35 then behind_gap true cs else c ∷ cs)

-- the text begins with this token, and no longer front of the text is a token of any kind
pub record BeginsWith (text : List ℕ) (token : Token) (behind : List ℕ) : Type 0 where
  pub cut : text ≡ token.characters ++ behind
  pub is : IsToken token
  pub longest : (kind : TokenKind) (more rest : List ℕ) → behind ≡ more ++ rest → IsOf kind (token.characters ++ more) → more ≡ []

abbrev pub BeginsWithNone : List ℕ → Type 0
BeginsWithNone text = (kind : TokenKind) (front rest : List ℕ) → text ≡ front ++ rest → IsOf kind front → ⊥

-- the first tokens of a text, and what stands behind them and the white space and comments that follow
abbrev pub AreTokens : List ℕ → List Token → List ℕ → Type 0
AreTokens text [] rest = rest ≡ behind_gap false text
AreTokens text (token ∷ tokens) rest = (behind : List ℕ) × BeginsWith (behind_gap false text) token behind × AreTokens behind tokens rest

-- These are the first tokens of the bytes, what is left begins at this place, and of it so much is characters.
pub record IsReadTo (bytes : List ℕ) (place : ℕ) (tokens : List Token) (rest bad : List ℕ) : Type 0 where
  pub characters : List ℕ
  pub are_characters : AreCharacters bytes characters bad
  pub are_tokens : AreTokens characters tokens rest
  pub place_is : length bytes ≡ place + (length (encode_utf8_all rest) + length bad)

-- the whole of the bytes
abbrev pub AreAllTokens : List ℕ → List Token → Type 0
AreAllTokens bytes tokens = IsReadTo bytes (length bytes) tokens [] []
