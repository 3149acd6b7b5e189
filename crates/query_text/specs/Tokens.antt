-- The tokens of a query, a rule for each kind over all of a token's characters (SPARQL 1.1 Query Language, section 19.8).
use Rattle.std.specs.Prelude.{◌≡◌, ◌≢◌, ℕ, Bool, ◌&&◌, ◌||◌, not, false, List, [], ◌∷◌, ◌++◌, map, IsTrue, ◌⊎◌, ◌==◌, if◌then◌else◌, codes}
use Rattle.std.specs.Char.{encode_utf8, to_ascii_lowercase}
use Rattle.std.specs.List.{list_all, list_any, flat_map, AllByRecursion}
use Rattle.std.specs.Str.{encode_utf8_all}
use Rattle.term_core.specs.Characters.{is_digit, is_letter, is_base_character}
use Rattle.term_core.specs.Term.{IsTag, EndsWithoutDot}
use Rattle.nt_text.specs.declared.pieces.Between.TheVariants.{Brackets, Quotes}
use Rattle.nt_text.specs.Escapes.{Piece, Itself, Echar, Uchar4, Uchar8, source, meaning, is_piece}
use Rattle.query_text.specs.declared.kind.TokenKind.{TokenKind}
use Rattle.query_text.specs.declared.kind.TokenKind.TheVariants as kinds
use Rattle.query_text.specs.Characters.{begins_name, continues_variable, continues_name, continues_word}

-- ---- IRIREF and strings: pieces as in documents, where a character that stands as itself is given by its code point

-- what the piece means, in UTF-8
abbrev pub text_of : Piece → List ℕ
text_of (Itself c) = encode_utf8 c
text_of (Echar letter) = meaning (Echar letter)
text_of (Uchar4 a b c d) = meaning (Uchar4 a b c d)
text_of (Uchar8 a b c d e f g h) = meaning (Uchar8 a b c d e f g h)

-- what may stand between two ': as itself all but ' \ LF and CR, and the escapes of all strings
abbrev pub is_apostrophe_piece : Piece → Bool
is_apostrophe_piece (Itself c) = not (c == 39 || c == 92 || c == 10 || c == 13)
is_apostrophe_piece (Echar letter) = is_piece Quotes (Echar letter)
is_apostrophe_piece (Uchar4 a b c d) = is_piece Quotes (Uchar4 a b c d)
is_apostrophe_piece (Uchar8 a b c d e f g h) = is_piece Quotes (Uchar8 a b c d e f g h)

-- the characters are pieces that pass the test, between an opening and a closing character, and the text is what they mean
pub record IsEnclosed (is_allowed : Piece → Bool) (opening closing : ℕ) (characters text : List ℕ) : Type 0 where
  pub pieces : List Piece
  pub each : AllByRecursion (λ piece. IsTrue (is_allowed piece)) pieces
  pub spelled : characters ≡ opening ∷ flat_map source pieces ++ closing ∷ []
  pub means : text ≡ flat_map text_of pieces

-- IRIREF
abbrev pub IsIriref : List ℕ → List ℕ → Type 0
IsIriref characters iri = IsEnclosed (is_piece Brackets) 60 62 characters iri

-- STRING_LITERAL1 and STRING_LITERAL2
abbrev pub IsString : List ℕ → List ℕ → Type 0
IsString characters form = IsEnclosed (is_piece Quotes) 34 34 characters form ⊎ IsEnclosed is_apostrophe_piece 39 39 characters form

-- ---- names

-- LANGTAG, whose tag is kept in lower case
pub record IsLangtag (characters tag : List ℕ) : Type 0 where
  pub written : List ℕ
  pub spelled : characters ≡ 64 ∷ written
  pub lower : tag ≡ map to_ascii_lowercase written
  pub tag_is : IsTag tag

-- one or more characters, the first of one class and the others of another
abbrev pub is_name : (ℕ → Bool) → (ℕ → Bool) → List ℕ → Bool
is_name begins continues [] = false
is_name begins continues (c ∷ cs) = begins c && list_all continues cs

-- the same, where dots may stand too, but neither first nor last
abbrev pub IsDotted : (ℕ → Bool) → (ℕ → Bool) → List ℕ → Type 0
IsDotted begins continues [] = ⊥
IsDotted begins continues (c ∷ cs) = IsTrue (begins c) × IsTrue (list_all (λ d. continues d || d == 46) cs) × EndsWithoutDot cs

-- VAR1 and VAR2: ? or $, and the name
pub record IsVariable (characters name : List ℕ) : Type 0 where
  pub mark : ℕ
  pub letters : List ℕ
  pub spelled : characters ≡ mark ∷ letters
  pub mark_is : IsTrue (mark == 63 || mark == 36)
  pub letters_are : IsTrue (is_name (λ c. begins_name c || is_digit c) continues_variable letters)
  pub name_is : name ≡ encode_utf8_all letters

-- BLANK_NODE_LABEL
pub record IsLabel (characters label : List ℕ) : Type 0 where
  pub letters : List ℕ
  pub spelled : characters ≡ codes "_:" ++ letters
  pub letters_are : IsDotted (λ c. begins_name c || is_digit c) continues_name letters
  pub label_is : label ≡ encode_utf8_all letters

-- PN_PREFIX, or nothing
abbrev pub IsPrefix : List ℕ → Type 0
IsPrefix letters = (letters ≡ []) ⊎ IsDotted is_base_character continues_name letters

-- PN_LOCAL without escapes, or nothing
abbrev pub IsLocal : List ℕ → Type 0
IsLocal letters = (letters ≡ []) ⊎ IsDotted (λ c. begins_name c || is_digit c || c == 58) (λ c. continues_name c || c == 58) letters

-- PNAME_NS and PNAME_LN; a prefix, which is only compared, is given by its characters
pub record IsPrefixedName (characters «prefix» local : List ℕ) : Type 0 where
  pub before : List ℕ
  pub behind : List ℕ
  pub spelled : characters ≡ before ++ 58 ∷ behind
  pub before_is : IsPrefix before
  pub behind_is : IsLocal behind
  pub prefix_is : «prefix» ≡ before
  pub local_is : local ≡ encode_utf8_all behind

-- ---- numbers

abbrev pub are_digits : List ℕ → Bool
are_digits = list_all is_digit

-- one or more digits
abbrev pub is_number : List ℕ → Bool
is_number = is_name is_digit is_digit

-- the number without its + or -
abbrev pub without_sign : List ℕ → List ℕ
without_sign [] = []
without_sign (c ∷ cs) = if c == 43 || c == 45 then cs else c ∷ cs

-- INTEGER with an optional sign
abbrev pub IsInteger : List ℕ → Type 0
IsInteger characters = IsTrue (is_number (without_sign characters))

-- digits, a dot and digits
pub record IsPointed (digits whole part : List ℕ) : Type 0 where
  pub spelled : digits ≡ whole ++ 46 ∷ part
  pub whole_is : IsTrue (are_digits whole)
  pub part_is : IsTrue (are_digits part)

-- DECIMAL with an optional sign: there is a digit behind the dot
abbrev pub IsDecimal : List ℕ → Type 0
IsDecimal characters = (whole part : List ℕ) × IsPointed (without_sign characters) whole part × (part ≢ [])

-- DOUBLE with an optional sign: an INTEGER, a DECIMAL, or digits and a dot, and then an exponent
pub record IsDouble (characters : List ℕ) : Type 0 where
  pub number : List ℕ
  pub mark : ℕ
  pub exponent : List ℕ
  pub spelled : characters ≡ number ++ mark ∷ exponent
  pub number_is : IsInteger number ⊎ IsDecimal number ⊎ ((whole : List ℕ) × IsPointed (without_sign number) whole [] × (whole ≢ []))
  pub mark_is : IsTrue (mark == 101 || mark == 69)
  pub exponent_is : IsInteger exponent

-- ---- words and symbols

-- the opening of STRING_LITERAL_LONG1 or STRING_LITERAL_LONG2
abbrev pub IsLong : List ℕ → Type 0
IsLong characters = (characters ≡ codes "\"\"\"") ⊎ (characters ≡ codes "'''")

abbrev pub IsWordToken : List ℕ → Type 0
IsWordToken characters = IsTrue (is_name is_letter continues_word characters)

-- one of these characters, or ^^
abbrev pub IsSymbolToken : List ℕ → Type 0
IsSymbolToken characters =
    ((c : ℕ) × (characters ≡ c ∷ []) × IsTrue (list_any (λ known. known == c) (codes "{}.;,*()[]/|^!+?%\\"))) ⊎ (characters ≡ codes "^^")

-- ---- all kinds

-- the characters are a token of this kind
abbrev pub IsOf : TokenKind → List ℕ → Type 0
IsOf kinds.Iriref characters = (iri : List ℕ) × IsIriref characters iri
IsOf kinds.Str characters = (form : List ℕ) × IsString characters form
IsOf kinds.Langtag characters = (tag : List ℕ) × IsLangtag characters tag
IsOf kinds.Var characters = (name : List ℕ) × IsVariable characters name
IsOf kinds.Label characters = (label : List ℕ) × IsLabel characters label
IsOf kinds.PrefixName characters = («prefix» local : List ℕ) × IsPrefixedName characters «prefix» local
IsOf kinds.Integer characters = IsInteger characters
IsOf kinds.Decimal characters = IsDecimal characters
IsOf kinds.Double characters = IsDouble characters
IsOf kinds.Long characters = IsLong characters
IsOf kinds.Word characters = IsWordToken characters
IsOf kinds.Symbol characters = IsSymbolToken characters

-- a token: its characters, and the kind whose rule they keep
pub record Token : Type 0 where
  pub kind : TokenKind
  pub characters : List ℕ

abbrev pub IsToken : Token → Type 0
IsToken token = IsOf token.kind token.characters
