-- What is written is UTF-8 where what it means is.
use Rattle.std.proofs.Common.{◌≡◌, ℕ, ◌<◌, ◌≤◌, true, ◌&&◌, List, [], ◌∷◌, ◌++◌, length, length-append, get_or, refl, sym, ap, subst, ◌∙◌, append_assoc, arith}
use Rattle.std.specs.Char.{encode_utf8, IsScalar, is_ascii_hexdigit}
use Rattle.std.specs.List.{list_all, flat_map}
use Rattle.std.specs.Str.{IsUtf8, IsCharBoundary}
use Rattle.std.proofs.Math.ListN.{get_or-append}
use Rattle.std.proofs.Math.Seq.{take-append_seam, drop-append_seam}
use Rattle.std.proofs.lemmas.Bool.{and_parts, and_from, ltb-true}
use Rattle.std.proofs.lemmas.Bool.Decides.{nat_tests}
use Rattle.std.proofs.lemmas.List.{get_or-append_right}
use Rattle.std.proofs.lemmas.Str.{IsUtf8-append, IsUtf8-encode, IsUtf8-take, IsUtf8-drop, IsUtf8-past_char, IsCharBoundary-start, encode_ascii, length-encode, len_utf8_bounds}
use Rattle.term_core.specs.Characters.{is_iri_character}
use Rattle.nt_text.specs.declared.pieces.Between.{Between}
use Rattle.nt_text.specs.declared.pieces.Between.TheVariants.{Brackets, Quotes}
use Rattle.nt_text.specs.Escapes.{Piece, Itself, Echar, Uchar4, Uchar8, source, meaning, escaped, is_piece, is_letter_of_escape, is_named, is_character, are_four_digits, number_of_four, number_of_eight, opening, closing}
use Rattle.nt_text.proofs.PieceTexts.{ArePieces}
use Rattle.nt_text.proofs.Tags.{is_low, low_utf8}

-- ---- text is cut before and behind a character

before_character : (front behind : List ℕ) (c : ℕ) → IsScalar c → IsCharBoundary (front ++ (encode_utf8 c ++ behind)) (length front)
before_character front behind c scalar =
    let code = encode_utf8 c in
    let some : 0 < length code = omega (arith, length-encode c, (len_utf8_bounds c).0) in
    let first : get_or (front ++ (code ++ behind)) (length front) 0 ≡ get_or code 0 0 =
    get_or-append_right front (code ++ behind) (length front) (length front) 0 refl (omega arith)
    ∙ ap (λ (n : ℕ). get_or (code ++ behind) n 0) (omega arith) ∙ get_or-append code behind 0 0 some in
    let start = IsCharBoundary-start code (IsUtf8-encode c scalar) in
    (omega (arith, length-append front (code ++ behind)), λ lt high. subst (λ (b : ℕ). 192 ≤ b) (sym first) (start.1 some (subst (λ (b : ℕ). 128 ≤ b) first high)))

around : (front behind : List ℕ) (c : ℕ) → IsScalar c → IsUtf8 (front ++ (encode_utf8 c ++ behind)) → IsUtf8 front × IsUtf8 behind
around front behind c scalar utf8 =
    let whole = front ++ (encode_utf8 c ++ behind) in
    let boundary = before_character front behind c scalar in
    let rest : IsUtf8 (encode_utf8 c ++ behind) =
    subst IsUtf8 (drop-append_seam front (encode_utf8 c ++ behind)) (IsUtf8-drop whole (length front) utf8 boundary) in (
      subst IsUtf8 (take-append_seam front (encode_utf8 c ++ behind)) (IsUtf8-take whole (length front) utf8 boundary),
      IsUtf8-past_char (encode_utf8 c ++ behind) behind c rest refl,
    )

-- ---- one escape

-- it means a character, and is written in ASCII
record IsEscape (piece : Piece) : Type 0 where
  character : ℕ
  scalar : IsScalar character
  means : meaning piece ≡ encode_utf8 character
  low : list_all is_low (source piece) ≡ true

hexadecimal_low : (b : ℕ) → is_ascii_hexdigit b ≡ true → is_low b ≡ true
hexadecimal_low b h = grind (arith, nat_tests)

four_low : (a b c d : ℕ) (rest : List ℕ) → are_four_digits a b c d ≡ true → list_all is_low rest ≡ true → list_all is_low (a ∷ b ∷ c ∷ d ∷ rest) ≡ true
four_low a b c d rest h low =
    let p = and_parts (is_ascii_hexdigit a && is_ascii_hexdigit b && is_ascii_hexdigit c) (is_ascii_hexdigit d) h in
    let q = and_parts (is_ascii_hexdigit a && is_ascii_hexdigit b) (is_ascii_hexdigit c) p.0 in
    let r = and_parts (is_ascii_hexdigit a) (is_ascii_hexdigit b) q.0 in
    and_from (is_low a) (list_all is_low (b ∷ c ∷ d ∷ rest)) (hexadecimal_low a r.0)
    (and_from (is_low b) (list_all is_low (c ∷ d ∷ rest)) (hexadecimal_low b r.1)
    (and_from (is_low c) (list_all is_low (d ∷ rest)) (hexadecimal_low c q.1)
    (and_from (is_low d) (list_all is_low rest) (hexadecimal_low d p.1) low)))

character_scalar : (c : ℕ) → is_character c ≡ true → IsScalar c
character_scalar c h = grind (arith, nat_tests)

named_scalar : (between : Between) (c : ℕ) → is_named between c ≡ true → IsScalar c
unfolding is_named
named_scalar Brackets c h = character_scalar c (and_parts (is_character c) (is_iri_character c) h).0
named_scalar Quotes c h = character_scalar c h

letter_low : (between : Between) (letter : ℕ) → is_letter_of_escape between letter ≡ true → is_low letter ≡ true
unfolding is_letter_of_escape
letter_low Brackets letter h = absurd cc
letter_low Quotes letter h = grind (arith, nat_tests)

escaped_low : (letter : ℕ) → is_low letter ≡ true → is_low (escaped letter) ≡ true
escaped_low letter h = grind (arith, nat_tests)

low_scalar : (c : ℕ) → is_low c ≡ true → IsScalar c
low_scalar c h = grind (arith, nat_tests)

echar_escape : (between : Between) (letter : ℕ) → is_piece between (Echar letter) ≡ true → IsEscape (Echar letter)
echar_escape between letter h =
    let low = letter_low between letter h in
    let meant = escaped_low letter low in record {
      character = escaped letter;
      scalar = low_scalar (escaped letter) meant;
      means = sym (encode_ascii (escaped letter) (ltb-true (escaped letter) 128 meant));
      low = and_from (is_low letter) true low refl;
    }

uchar4_escape : (between : Between) (a b c d : ℕ) → is_piece between (Uchar4 a b c d) ≡ true → IsEscape (Uchar4 a b c d)
uchar4_escape between a b c d h =
    let parts = and_parts (are_four_digits a b c d) (is_named between (number_of_four a b c d)) h in record {
      character = number_of_four a b c d;
      scalar = named_scalar between (number_of_four a b c d) parts.1;
      means = refl;
      low = four_low a b c d [] parts.0 refl;
    }

uchar8_escape : (between : Between) (a b c d e f g i : ℕ) → is_piece between (Uchar8 a b c d e f g i) ≡ true → IsEscape (Uchar8 a b c d e f g i)
uchar8_escape between a b c d e f g i h =
    let parts = and_parts (are_four_digits a b c d && are_four_digits e f g i) (is_named between (number_of_eight a b c d e f g i)) h in
    let digits = and_parts (are_four_digits a b c d) (are_four_digits e f g i) parts.0 in record {
      character = number_of_eight a b c d e f g i;
      scalar = named_scalar between (number_of_eight a b c d e f g i) parts.1;
      means = refl;
      low = four_low a b c d (e ∷ f ∷ g ∷ i ∷ []) digits.0 (four_low e f g i [] digits.1 refl);
    }

-- ---- many pieces

past_escape : (piece : Piece) (front said written : List ℕ) → IsEscape piece → (IsUtf8 said → IsUtf8 written) → IsUtf8 (front ++ (meaning piece ++ said))
    → IsUtf8 (front ++ (source piece ++ written))
past_escape piece front said written h again utf8 =
    let parts = around front said h.character h.scalar (subst (λ (x : List ℕ). IsUtf8 (front ++ (x ++ said))) h.means utf8) in
    IsUtf8-append front (source piece ++ written) parts.0 (IsUtf8-append (source piece) written (low_utf8 (source piece) h.low) (again parts.1))

sources_from : (between : Between) (pieces : List Piece) (front : List ℕ) → ArePieces between pieces → IsUtf8 (front ++ flat_map meaning pieces)
    → IsUtf8 (front ++ flat_map source pieces)
sources_from between [] front each utf8 = utf8
sources_from between (Itself b ∷ ps) front each utf8 =
    subst IsUtf8 (append_assoc front (b ∷ []) (flat_map source ps))
    (sources_from between ps (front ++ b ∷ []) each.1 (subst IsUtf8 (sym (append_assoc front (b ∷ []) (flat_map meaning ps))) utf8))
sources_from between (Echar letter ∷ ps) front each utf8 =
    past_escape (Echar letter) front (flat_map meaning ps) (flat_map source ps) (echar_escape between letter each.0) (λ u. sources_from between ps [] each.1 u) utf8
sources_from between (Uchar4 a b c d ∷ ps) front each utf8 =
    past_escape (Uchar4 a b c d) front (flat_map meaning ps) (flat_map source ps) (uchar4_escape between a b c d each.0) (λ u. sources_from between ps [] each.1 u) utf8
sources_from between (Uchar8 a b c d e f g i ∷ ps) front each utf8 =
    past_escape (Uchar8 a b c d e f g i) front (flat_map meaning ps) (flat_map source ps) (uchar8_escape between a b c d e f g i each.0)
    (λ u. sources_from between ps [] each.1 u) utf8

opening_low : (between : Between) → IsUtf8 (opening between ∷ [])
opening_low Brackets = low_utf8 (60 ∷ []) refl
opening_low Quotes = low_utf8 (34 ∷ []) refl

closing_low : (between : Between) → IsUtf8 (closing between ∷ [])
closing_low Brackets = low_utf8 (62 ∷ []) refl
closing_low Quotes = low_utf8 (34 ∷ []) refl

-- a token whose text is UTF-8 is UTF-8 too
pub token_utf8 : (between : Between) (pieces : List Piece) → ArePieces between pieces → IsUtf8 (flat_map meaning pieces)
    → IsUtf8 (opening between ∷ (flat_map source pieces ++ closing between ∷ []))
token_utf8 between pieces each utf8 =
    let sources = flat_map source pieces in
    IsUtf8-append (opening between ∷ []) (sources ++ closing between ∷ []) (opening_low between)
    (IsUtf8-append sources (closing between ∷ []) (sources_from between pieces [] each utf8) (closing_low between))
