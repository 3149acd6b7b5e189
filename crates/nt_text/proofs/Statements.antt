-- The rules on the statements of lines.
use Rattle.std.proofs.Common.{◌≡◌, ℕ, ◌<◌, ◌≤◌, ◌^◌, true, ◌&&◌, List, [], ◌∷◌, ◌++◌, length, refl, sym, subst, inl, inr, arith}
use Rattle.std.specs.Char.{encode_utf8}
use Rattle.std.specs.Int.{w32, to_be_bytes}
use Rattle.std.specs.List.{list_all, flat_map}
use Rattle.std.specs.Str.{IsUtf8}
use Rattle.std.proofs.lemmas.Bool.{and_parts, and_from}
use Rattle.std.proofs.lemmas.List.{length-append}
use Rattle.std.proofs.lemmas.Str.{IsUtf8-from_is_utf8}
use Rattle.term_core.specs.declared.term.Term.{Term}
use Rattle.term_core.specs.declared.term.Term.TheVariants.{Iri, Literal, Tagged, Blank}
use Rattle.term_core.specs.declared.statement.Statement.{Statement}
use Rattle.term_core.specs.Characters.{is_iri_character}
use Rattle.term_core.specs.Spelling.{counted}
use Rattle.term_core.specs.Term.{IsIri, IsForm, IsTerm, IsStatement}
use Rattle.nt_text.specs.declared.pieces.Between.TheVariants.{Brackets}
use Rattle.nt_text.specs.Cell.{xsd_string}
use Rattle.nt_text.specs.Document.{IsToken, IsTriple, IsUntimed, HasNoTimes}
use Rattle.nt_text.specs.Escapes.{Piece, Itself, Echar, Uchar4, Uchar8, meaning, is_piece, is_plain, is_letter_of_escape, is_named, is_character, are_four_digits, number_of_four, number_of_eight, IsEnclosed}
use Rattle.nt_text.specs.Limits.{IsShort, HasShortTerms}
use Rattle.nt_text.proofs.Encoded.{all_append, encode_passes}
use Rattle.nt_text.proofs.Iris.{iri_high, IsIri-from_bytes}
use Rattle.nt_text.proofs.PieceTexts.{ArePieces}
use Rattle.nt_text.proofs.TextTests.{xsd_utf8}

-- ---- what a text in brackets means is an IRI

named_iri : (c : ℕ) → is_named Brackets c ≡ true → list_all is_iri_character (encode_utf8 c) ≡ true
unfolding is_named
named_iri c h = encode_passes is_iri_character iri_high c (and_parts (is_character c) (is_iri_character c) h).1

plain_iri : (b : ℕ) → is_plain Brackets b ≡ true → is_iri_character b ≡ true
unfolding is_plain
plain_iri b h = h

no_letter : (letter : ℕ) → is_letter_of_escape Brackets letter ≡ true → ⊥
unfolding is_letter_of_escape
no_letter letter h = cc

piece_iri : (piece : Piece) → is_piece Brackets piece ≡ true → list_all is_iri_character (meaning piece) ≡ true
piece_iri (Itself b) h = and_from (is_iri_character b) true (plain_iri b h) refl
piece_iri (Echar letter) h = absurd (no_letter letter h)
piece_iri (Uchar4 a b c d) h = named_iri (number_of_four a b c d) (and_parts (are_four_digits a b c d) (is_named Brackets (number_of_four a b c d)) h).1
piece_iri (Uchar8 a b c d e f g i) h =
    named_iri (number_of_eight a b c d e f g i)
    (and_parts (are_four_digits a b c d && are_four_digits e f g i) (is_named Brackets (number_of_eight a b c d e f g i)) h).1

pieces_iri : (pieces : List Piece) → ArePieces Brackets pieces → list_all is_iri_character (flat_map meaning pieces) ≡ true
pieces_iri [] h = refl
pieces_iri (p ∷ ps) h = all_append is_iri_character (meaning p) (flat_map meaning ps) (piece_iri p h.0) (pieces_iri ps h.1)

enclosed_iri : (token iri : List ℕ) → IsEnclosed Brackets token iri → IsIri iri
enclosed_iri token iri h =
    IsIri-from_bytes iri h.utf8 (subst (λ (x : List ℕ). list_all is_iri_character x ≡ true) (sym h.means) (pieces_iri h.pieces h.each))

xsd_characters : list_all is_iri_character xsd_string ≡ true
unfolding xsd_string is_iri_character
xsd_characters = refl

xsd_iri : IsIri xsd_string
xsd_iri = IsIri-from_bytes xsd_string (IsUtf8-from_is_utf8 xsd_string xsd_utf8) xsd_characters

-- ---- terms and statements

form_from : (form : List ℕ) → IsUtf8 form → length form ≤ 65535 → IsForm form
form_from form utf8 short = record { utf8 = utf8; short = omega arith }

-- a form is shorter than a spelling that it stands in
form_within : (b : ℕ) (form rest : List ℕ) → length (b ∷ (counted form ++ rest)) ≤ 65535 → length form ≤ 65535
form_within b form rest short =
    let whole = length-append (counted form) rest in
    let text = length-append (to_be_bytes w32 (length form)) form in
    omega (arith, whole, text, short)

token_term : (token : List ℕ) (term : Term) → IsToken token term → IsShort term → IsTerm term
token_term token (Iri iri) h short = enclosed_iri token iri h
token_term token (Literal form datatype) h short =
    elim h [
      | inl plain ↦ (form_from form plain.0.utf8 (form_within 2 form datatype short), subst IsIri (sym plain.1) xsd_iri)
      | inr typed ↦ (form_from form typed.string_is.utf8 (form_within 2 form datatype short), enclosed_iri typed.iri datatype typed.iri_is)
    ]
token_term token (Tagged form tag) h short = (form_from form h.string_is.utf8 (form_within 3 form tag short), h.tag_is)
token_term token (Blank at label) h short = (subst (λ (n : ℕ). n < 2 ^ 64) (sym h.0) (omega arith), h.1)

pub IsStatement-from_triple : (line : List ℕ) (statement : Statement) → IsTriple line statement → HasShortTerms statement → IsStatement statement
IsStatement-from_triple line statement h short = record {
  subject = token_term h.subject statement.subject h.subject_is short.subject;
  subject_kind = h.subject_kind;
  predicate = token_term h.predicate statement.predicate h.predicate_is short.predicate;
  predicate_kind = h.predicate_kind;
  object = token_term h.object statement.object h.object_is short.object;
}

token_untimed : (token : List ℕ) (term : Term) → IsToken token term → IsUntimed term
token_untimed token (Iri iri) h = tt
token_untimed token (Literal form datatype) h = tt
token_untimed token (Tagged form tag) h = tt
token_untimed token (Blank at label) h = h.0

pub HasNoTimes-from_triple : (line : List ℕ) (statement : Statement) → IsTriple line statement → HasNoTimes statement
HasNoTimes-from_triple line statement h =
    (token_untimed h.subject statement.subject h.subject_is, token_untimed h.object statement.object h.object_is)
