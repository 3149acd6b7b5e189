-- The text of an IRIREF and of a STRING_LITERAL_QUOTE, with its escapes (RDF 1.1 N-Triples, section 7, ECHAR and UCHAR).
use Rattle.std.specs.Prelude.{◌≡◌, ℕ, ◌+◌, ◌*◌, Bool, false, ◌&&◌, ◌||◌, not, List, [], ◌∷◌, ◌++◌, IsTrue, nat_lt, ◌==◌, if◌then◌else◌, codes}
use Rattle.std.specs.Char.{encode_utf8, digit_value, is_ascii_hexdigit}
use Rattle.std.specs.List.{list_any, flat_map, AllByRecursion}
use Rattle.std.specs.Str.{IsUtf8}
use Rattle.term_core.specs.Characters.{is_within, is_iri_character}
use Rattle.nt_text.specs.declared.pieces.Between.{Between}
use Rattle.nt_text.specs.declared.pieces.Between.TheVariants.{Brackets, Quotes}

-- A piece of a text. What is excluded as itself is ASCII, so that a character beyond ASCII is given by its bytes.
pub data Piece : Type 0 where
  Itself : ℕ → Piece
  Echar : ℕ → Piece
  Uchar4 : ℕ → ℕ → ℕ → ℕ → Piece
  Uchar8 : ℕ → ℕ → ℕ → ℕ → ℕ → ℕ → ℕ → ℕ → Piece

-- how the piece is written: \ and a letter, \u and four digits, \U and eight
abbrev pub source : Piece → List ℕ
source (Itself b) = b ∷ []
source (Echar letter) = 92 ∷ letter ∷ []
source (Uchar4 a b c d) = 92 ∷ 117 ∷ a ∷ b ∷ c ∷ d ∷ []
source (Uchar8 a b c d e f g h) = 92 ∷ 85 ∷ a ∷ b ∷ c ∷ d ∷ e ∷ f ∷ g ∷ h ∷ []

-- the number of four hexadecimal digits
abbrev pub number_of_four : ℕ → ℕ → ℕ → ℕ → ℕ
number_of_four a b c d = ((digit_value a * 16 + digit_value b) * 16 + digit_value c) * 16 + digit_value d

abbrev pub number_of_eight : ℕ → ℕ → ℕ → ℕ → ℕ → ℕ → ℕ → ℕ → ℕ
number_of_eight a b c d e f g h = number_of_four a b c d * 65536 + number_of_four e f g h

-- \t \b \n \r \f, and \" \' \\, which mean the letter itself
abbrev pub escaped : ℕ → ℕ
escaped letter =
    if letter == 116 then 9 else (if letter == 98 then 8 else (if letter == 110 then 10 else (
    if letter == 114 then 13 else (if letter == 102 then 12 else letter))))

-- what the piece means
abbrev pub meaning : Piece → List ℕ
meaning (Itself b) = b ∷ []
meaning (Echar letter) = escaped letter ∷ []
meaning (Uchar4 a b c d) = encode_utf8 (number_of_four a b c d)
meaning (Uchar8 a b c d e f g h) = encode_utf8 (number_of_eight a b c d e f g h)

-- what may stand as itself: in quotes all but " \ LF and CR
unfoldable pub is_plain : Between → ℕ → Bool
is_plain Brackets b = is_iri_character b
is_plain Quotes b = not (b == 34 || b == 92 || b == 10 || b == 13)

unfoldable pub is_letter_of_escape : Between → ℕ → Bool
is_letter_of_escape Brackets letter = false
is_letter_of_escape Quotes letter = list_any (λ known. known == letter) (codes "tbnrf\"'\\")

-- no surrogate, and at most 10FFFF
abbrev pub is_character : ℕ → Bool
is_character c = nat_lt c 0xD800 || is_within 0xE000 0x10FFFF c

-- what a UCHAR may name
unfoldable pub is_named : Between → ℕ → Bool
is_named Brackets c = is_character c && is_iri_character c
is_named Quotes c = is_character c

abbrev pub are_four_digits : ℕ → ℕ → ℕ → ℕ → Bool
are_four_digits a b c d = is_ascii_hexdigit a && is_ascii_hexdigit b && is_ascii_hexdigit c && is_ascii_hexdigit d

-- the piece may stand there
abbrev pub is_piece : Between → Piece → Bool
is_piece between (Itself b) = is_plain between b
is_piece between (Echar letter) = is_letter_of_escape between letter
is_piece between (Uchar4 a b c d) = are_four_digits a b c d && is_named between (number_of_four a b c d)
is_piece between (Uchar8 a b c d e f g h) =
    (are_four_digits a b c d && are_four_digits e f g h) && is_named between (number_of_eight a b c d e f g h)

abbrev pub opening : Between → ℕ
opening Brackets = 60
opening Quotes = 34

abbrev pub closing : Between → ℕ
closing Brackets = 62
closing Quotes = 34

-- the token is a text between its brackets or quotes: pieces whose sources make it up, and whose meanings are the text;
-- what is written and what is meant are UTF-8
pub record IsEnclosed (between : Between) (token text : List ℕ) : Type 0 where
  pub pieces : List Piece
  pub each : AllByRecursion (λ piece. IsTrue (is_piece between piece)) pieces
  pub spelled : token ≡ opening between ∷ flat_map source pieces ++ closing between ∷ []
  pub means : text ≡ flat_map meaning pieces
  pub written : IsUtf8 token
  pub utf8 : IsUtf8 text
