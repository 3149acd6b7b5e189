-- Private: how the code finds the longest token: what has been read of it, character by character. That it finds what the rules say stands in proofs/.
use Rattle.std.specs.Prelude.{ℕ, ◌+◌, ◌-◌, ◌*◌, Bool, true, false, ◌&&◌, ◌||◌, List, [], ◌∷◌, Option, Some, None, ◌==◌, nat_le, nat_lt, if◌then◌else◌, codes, option_map}
use Rattle.std.specs.Char.{digit_value, is_ascii_hexdigit}
use Rattle.std.specs.List.{list_any}
use Rattle.term_core.specs.Characters.{is_digit, is_letter, is_base_character}
use Rattle.nt_text.specs.declared.pieces.Between.TheVariants as between
use Rattle.nt_text.specs.Escapes.{Piece, Itself, Echar, is_piece, is_named}
use Rattle.query_text.specs.declared.kind.TokenKind.{TokenKind}
use Rattle.query_text.specs.declared.kind.TokenKind.TheVariants as kinds
use Rattle.query_text.specs.declared.text_scan.Enclosure.{Enclosure}
use Rattle.query_text.specs.declared.text_scan.Enclosure.TheVariants.{Brackets, Quotes, Apostrophes}
use Rattle.query_text.specs.declared.text_scan.TextScan.{TextScan}
use Rattle.query_text.specs.declared.text_scan.TextScan.TheVariants as texts
use Rattle.query_text.specs.declared.tag_scan.TagScan.{TagScan}
use Rattle.query_text.specs.declared.tag_scan.TagScan.TheVariants as tags
use Rattle.query_text.specs.declared.name_scan.NameScan.{NameScan}
use Rattle.query_text.specs.declared.name_scan.NameScan.TheVariants as names
use Rattle.query_text.specs.declared.number_scan.NumberScan.{NumberScan}
use Rattle.query_text.specs.declared.number_scan.NumberScan.TheVariants as numbers
use Rattle.query_text.specs.declared.scan.Scan.{Scan}
use Rattle.query_text.specs.declared.scan.Scan.TheVariants as scans
use Rattle.query_text.specs.Characters.{begins_name, continues_variable, continues_name, continues_word}
use Rattle.query_text.specs.Tokens.{is_apostrophe_piece}

-- ---- IRIREF and strings

abbrev pub opening : Enclosure → ℕ
opening Brackets = 60
opening Quotes = 34
opening Apostrophes = 39

abbrev pub closing : Enclosure → ℕ
closing Brackets = 62
closing Quotes = 34
closing Apostrophes = 39

abbrev pub kind_of : Enclosure → TokenKind
kind_of Brackets = kinds.Iriref
kind_of Quotes = kinds.Str
kind_of Apostrophes = kinds.Str

abbrev pub allowed : Enclosure → Piece → Bool
allowed Brackets = is_piece between.Brackets
allowed Quotes = is_piece between.Quotes
allowed Apostrophes = is_apostrophe_piece

unfoldable pub is_plain_in : Enclosure → ℕ → Bool
is_plain_in enclosure c = allowed enclosure (Itself c)

abbrev pub is_string_escape : ℕ → Bool
is_string_escape c = is_piece between.Quotes (Echar c)

abbrev pub is_letter_in : Enclosure → ℕ → Bool
is_letter_in enclosure c = allowed enclosure (Echar c)

unfoldable pub is_named_in : Enclosure → ℕ → Bool
is_named_in Brackets = is_named between.Brackets
is_named_in Quotes = is_named between.Quotes
is_named_in Apostrophes = is_named between.Quotes

abbrev pub inside : Enclosure → ℕ → Option TextScan
inside enclosure c =
    if c == closing enclosure then Some (texts.Closed enclosure) else (
    if c == 92 then Some (texts.Escape enclosure) else (if is_plain_in enclosure c then Some (texts.Inside enclosure) else None))

abbrev pub opened : Enclosure → ℕ → Option TextScan
opened enclosure c = if c == closing enclosure then Some (texts.Empty enclosure) else inside enclosure c

abbrev pub escaped : Enclosure → ℕ → Option TextScan
escaped enclosure c =
    if c == 117 then Some (texts.Digits enclosure 4 0) else (
    if c == 85 then Some (texts.Digits enclosure 8 0) else (if is_letter_in enclosure c then Some (texts.Inside enclosure) else None))

abbrev pub digit_read : Enclosure → ℕ → ℕ → Option TextScan
digit_read enclosure left value =
    if nat_lt 1 left then Some (texts.Digits enclosure (left - 1) value) else (if is_named_in enclosure value then Some (texts.Inside enclosure) else None)

abbrev pub digits : Enclosure → ℕ → ℕ → ℕ → Option TextScan
digits enclosure left value c =
    if nat_le value 0x10FFFF && is_ascii_hexdigit c then digit_read enclosure left (value * 16 + digit_value c) else None

abbrev pub third_quote : Enclosure → ℕ → Option TextScan
third_quote enclosure c = if c == closing enclosure then Some texts.Long else None

abbrev pub text_advance : TextScan → ℕ → Option TextScan
text_advance (texts.Opened enclosure) c = opened enclosure c
text_advance (texts.Inside enclosure) c = inside enclosure c
text_advance (texts.Escape enclosure) c = escaped enclosure c
text_advance (texts.Digits enclosure left value) c = digits enclosure left value c
text_advance (texts.Empty enclosure) c = third_quote enclosure c
text_advance (texts.Closed enclosure) c = None
text_advance texts.Long c = None

abbrev pub text_accepted : TextScan → Option TokenKind
text_accepted (texts.Opened enclosure) = None
text_accepted (texts.Inside enclosure) = None
text_accepted (texts.Escape enclosure) = None
text_accepted (texts.Digits enclosure left value) = None
text_accepted (texts.Empty enclosure) = Some kinds.Str
text_accepted (texts.Closed enclosure) = Some (kind_of enclosure)
text_accepted texts.Long = Some kinds.Long

-- ---- LANGTAG

abbrev pub is_tag_character : ℕ → Bool
is_tag_character c = is_letter c || is_digit c

abbrev pub tag_advance : TagScan → ℕ → Option TagScan
tag_advance tags.At c = if is_letter c then Some tags.Language else None
tag_advance tags.Language c = if is_letter c then Some tags.Language else (if c == 45 then Some tags.Hyphen else None)
tag_advance tags.Hyphen c = if is_tag_character c then Some tags.Subtag else None
tag_advance tags.Subtag c = if is_tag_character c then Some tags.Subtag else (if c == 45 then Some tags.Hyphen else None)

abbrev pub tag_accepted : TagScan → Option TokenKind
tag_accepted tags.At = None
tag_accepted tags.Language = Some kinds.Langtag
tag_accepted tags.Hyphen = None
tag_accepted tags.Subtag = Some kinds.Langtag

-- ---- variables, labels, words and prefixed names

abbrev pub begins_variable : ℕ → Bool
begins_variable c = begins_name c || is_digit c

abbrev pub begins_local : ℕ → Bool
begins_local c = begins_variable c || c == 58

abbrev pub continues_local : ℕ → Bool
continues_local c = continues_name c || c == 58

abbrev pub label : ℕ → Option NameScan
label c = if c == 46 then Some names.LabelDot else (if continues_name c then Some names.Label else None)

abbrev pub local : ℕ → Option NameScan
local c = if c == 46 then Some names.LocalDot else (if continues_local c then Some names.Local else None)

abbrev pub prefix_dot : ℕ → Option NameScan
prefix_dot c = if c == 46 then Some names.PrefixDot else (if continues_name c then Some names.Prefix else None)

abbrev pub prefix_end : ℕ → Option NameScan
prefix_end c = if c == 58 then Some names.Colon else prefix_dot c

abbrev pub word : ℕ → Option NameScan
word c = if continues_word c then Some names.Word else prefix_end c

abbrev pub name_advance : NameScan → ℕ → Option NameScan
name_advance (names.Mark question) c = if begins_variable c then Some names.Variable else None
name_advance names.Variable c = if continues_variable c then Some names.Variable else None
name_advance names.Underscore c = if c == 58 then Some names.BlankNode else None
name_advance names.BlankNode c = if begins_variable c then Some names.Label else None
name_advance names.Label c = label c
name_advance names.LabelDot c = label c
name_advance names.Word c = word c
name_advance names.Prefix c = prefix_end c
name_advance names.PrefixDot c = prefix_dot c
name_advance names.Colon c = if begins_local c then Some names.Local else None
name_advance names.Local c = local c
name_advance names.LocalDot c = local c

abbrev pub name_accepted : NameScan → Option TokenKind
name_accepted (names.Mark question) = if question then Some kinds.Symbol else None
name_accepted names.Variable = Some kinds.Var
name_accepted names.Underscore = None
name_accepted names.BlankNode = None
name_accepted names.Label = Some kinds.Label
name_accepted names.LabelDot = None
name_accepted names.Word = Some kinds.Word
name_accepted names.Prefix = None
name_accepted names.PrefixDot = None
name_accepted names.Colon = Some kinds.PrefixName
name_accepted names.Local = Some kinds.PrefixName
name_accepted names.LocalDot = None

-- ---- numbers

abbrev pub exponent : ℕ → Option NumberScan
exponent c = if c == 101 || c == 69 then Some numbers.Exponent else None

abbrev pub with_digit : NumberScan → NumberScan
with_digit (numbers.Sign plus) = numbers.Integer
with_digit numbers.Integer = numbers.Integer
with_digit numbers.Point = numbers.Decimal
with_digit (numbers.Dot alone) = numbers.Decimal
with_digit numbers.Decimal = numbers.Decimal
with_digit numbers.Exponent = numbers.Double
with_digit numbers.ExponentSign = numbers.Double
with_digit numbers.Double = numbers.Double

-- with a character that is no digit
abbrev pub with_mark : NumberScan → ℕ → Option NumberScan
with_mark (numbers.Sign plus) c = if c == 46 then Some (numbers.Dot false) else None
with_mark numbers.Integer c = if c == 46 then Some numbers.Point else exponent c
with_mark numbers.Point c = exponent c
with_mark (numbers.Dot alone) c = None
with_mark numbers.Decimal c = exponent c
with_mark numbers.Exponent c = if c == 43 || c == 45 then Some numbers.ExponentSign else None
with_mark numbers.ExponentSign c = None
with_mark numbers.Double c = None

abbrev pub number_advance : NumberScan → ℕ → Option NumberScan
number_advance scan c = if is_digit c then Some (with_digit scan) else with_mark scan c

abbrev pub number_accepted : NumberScan → Option TokenKind
number_accepted (numbers.Sign plus) = if plus then Some kinds.Symbol else None
number_accepted numbers.Integer = Some kinds.Integer
number_accepted numbers.Point = None
number_accepted (numbers.Dot alone) = if alone then Some kinds.Symbol else None
number_accepted numbers.Decimal = Some kinds.Decimal
number_accepted numbers.Exponent = None
number_accepted numbers.ExponentSign = None
number_accepted numbers.Double = Some kinds.Double

-- ---- all tokens

-- the symbols that begin no longer token
unfoldable pub is_lone_symbol : ℕ → Bool
is_lone_symbol c = list_any (λ known. known == c) (codes "{};,*()[]/|!%\\")

-- the first character that is none of a name and no digit
unfoldable pub begin_mark : ℕ → Option Scan
begin_mark c =
    if c == 60 then Some (scans.Text (texts.Inside Brackets)) else (
    if c == 34 then Some (scans.Text (texts.Opened Quotes)) else (
    if c == 39 then Some (scans.Text (texts.Opened Apostrophes)) else (
    if c == 64 then Some (scans.Tag tags.At) else (
    if c == 63 then Some (scans.Name (names.Mark true)) else (
    if c == 36 then Some (scans.Name (names.Mark false)) else (
    if c == 95 then Some (scans.Name names.Underscore) else (
    if c == 58 then Some (scans.Name names.Colon) else (
    if c == 43 then Some (scans.Number (numbers.Sign true)) else (
    if c == 45 then Some (scans.Number (numbers.Sign false)) else (
    if c == 46 then Some (scans.Number (numbers.Dot true)) else (
    if c == 94 then Some scans.Caret else (if is_lone_symbol c then Some scans.Symbol else None))))))))))))

unfoldable pub begin : ℕ → Option Scan
begin c =
    if is_letter c then Some (scans.Name names.Word) else (
    if is_base_character c then Some (scans.Name names.Prefix) else (
    if is_digit c then Some (scans.Number numbers.Integer) else begin_mark c))

abbrev pub advance : Scan → ℕ → Option Scan
advance scans.Start c = begin c
advance (scans.Text scan) c = option_map scans.Text (text_advance scan c)
advance (scans.Tag scan) c = option_map scans.Tag (tag_advance scan c)
advance (scans.Name scan) c = option_map scans.Name (name_advance scan c)
advance (scans.Number scan) c = option_map scans.Number (number_advance scan c)
advance scans.Caret c = if c == 94 then Some scans.Symbol else None
advance scans.Symbol c = None

abbrev pub accepted : Scan → Option TokenKind
accepted scans.Start = None
accepted (scans.Text scan) = text_accepted scan
accepted (scans.Tag scan) = tag_accepted scan
accepted (scans.Name scan) = name_accepted scan
accepted (scans.Number scan) = number_accepted scan
accepted scans.Caret = Some kinds.Symbol
accepted scans.Symbol = Some kinds.Symbol

-- the kind of the longest token so far and its length, once so many characters are read
abbrev pub noted : Option (TokenKind × ℕ) → Option TokenKind → ℕ → Option (TokenKind × ℕ)
noted longest None at = longest
noted longest (Some kind) at = Some (kind, at)

-- the kind and the length of the longest token, where so many characters were read
abbrev pub longest_from : Option (TokenKind × ℕ) → ℕ → Option Scan → List ℕ → Option (TokenKind × ℕ)
longest_from longest at None text = longest
longest_from longest at (Some scan) [] = noted longest (accepted scan) at
longest_from longest at (Some scan) (c ∷ text) = longest_from (noted longest (accepted scan) at) (at + 1) (advance scan c) text
