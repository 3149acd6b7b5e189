-- The texts that tokens mean keep the rules on the characters of terms.
use Rattle.std.proofs.Common.{◌≡◌, ℕ, zero, suc, ◌+◌, ◌*◌, ◌<◌, ◌≤◌, arith, Bool, true, false, not, ◌||◌, ◌&&◌, ◌==◌, List, [], ◌∷◌, ◌++◌, length, length-append, map, refl, sym, ap, subst, ◌∙◌, inl, inr, ◌^◌}
use Rattle.std.specs.Prelude.{nat_le, IsTrue, codes}
use Rattle.std.specs.Char.{encode_utf8}
use Rattle.std.specs.List.{list_all, list_any, flat_map, AllByRecursion, range_with_len}
use Rattle.std.specs.Str.{encode_utf8_all, all_scalars}
use Rattle.std.proofs.Math.Utf8.{scalar, low_scalar}
use Rattle.std.proofs.lemmas.Bool.{and_parts, and_from, le-leb, ne_eqb, cases_lt}
use Rattle.std.proofs.lemmas.Bool.Decides.{nat_tests}
use Rattle.std.proofs.lemmas.Str.{encode_ascii, encodes-append, length-encode, len_utf8_bounds, chars-encodes}
use Rattle.term_core.specs.Characters.{is_within, is_digit, is_base_character, is_iri_character}
use Rattle.term_core.specs.Term.{IsIri, IsForm}
use Rattle.nt_text.specs.Cell.{xsd_string}
use Rattle.nt_text.specs.declared.pieces.Between.TheVariants as between
use Rattle.nt_text.specs.Escapes.{Piece, Itself, Echar, Uchar4, Uchar8, source, escaped, is_piece, is_plain, is_letter_of_escape, is_character, is_named, are_four_digits, number_of_four, number_of_eight}
use Rattle.nt_text.proofs.Encoded.{all_append}
use Rattle.query_text.specs.Characters.{begins_name, continues_variable, continues_name}
use Rattle.query_text.specs.Tokens.{text_of, is_apostrophe_piece, IsEnclosed, IsIriref, IsString, IsLocal}
use Rattle.query_text.specs.Grammar.{xsd_integer, xsd_decimal, xsd_boolean, rdf_type}
use Rattle.query_text.proofs.TokenTexts.{AreAscii, ascii_encoded, ascii_all, is_low, low_small, quoted_letter, escaped_small}

-- ---- characters in UTF-8

pub scalars_append : (xs ys : List ℕ) → all_scalars xs ≡ true → all_scalars ys ≡ true → all_scalars (xs ++ ys) ≡ true
scalars_append [] ys h k = k
scalars_append (x ∷ xs) ys h k =
    let parts = and_parts (scalar x) (all_scalars xs) h in and_from (scalar x) (all_scalars (xs ++ ys)) parts.0 (scalars_append xs ys parts.1 k)

pub scalars_split : (xs ys : List ℕ) → all_scalars (xs ++ ys) ≡ true → (all_scalars xs ≡ true) × (all_scalars ys ≡ true)
scalars_split [] ys h = (refl, h)
scalars_split (x ∷ xs) ys h =
    let parts = and_parts (scalar x) (all_scalars (xs ++ ys)) h in
    let rest = scalars_split xs ys parts.1 in
    (and_from (scalar x) (all_scalars xs) parts.0 rest.0, rest.1)

ascii_scalars : (cs : List ℕ) → AreAscii cs → all_scalars cs ≡ true
ascii_scalars [] h = refl
ascii_scalars (c ∷ cs) h = and_from (scalar c) (all_scalars cs) (low_scalar c (small c h.0)) (ascii_scalars cs h.1)
  where
    small : (c : ℕ) → c < 128 → c < 55296
    small c h = omega (arith, h)

-- a text is an IRI where its characters are
iri_from : (cs : List ℕ) → all_scalars cs ≡ true → list_all is_iri_character cs ≡ true → IsIri (encode_utf8_all cs)
iri_from cs scalars each = record {
  utf8 = (cs, (scalars, refl));
  each = ap (list_all is_iri_character) (chars-encodes cs scalars) ∙ each;
}

iri_ascii : (cs : List ℕ) → AreAscii cs → list_all is_iri_character cs ≡ true → IsIri cs
iri_ascii cs ascii each = subst IsIri (ascii_encoded cs ascii) (iri_from cs (ascii_scalars cs ascii) each)

form_from : (cs form : List ℕ) → all_scalars cs ≡ true → form ≡ encode_utf8_all cs → length cs ≤ 65536 → IsForm form
form_from cs form scalars e short = record { utf8 = (cs, (scalars, sym e)); short = fits (length form) (length cs) (omega (arith, ap length e, four cs)) short }
  where
    four : (xs : List ℕ) → length (encode_utf8_all xs) ≤ 4 * length xs
    four [] = omega arith
    four (x ∷ xs) = omega (arith, four xs, length-append (encode_utf8 x) (encode_utf8_all xs), length-encode x, (len_utf8_bounds x).1)

    fits : (n m : ℕ) → n ≤ 4 * m → m ≤ 65536 → n < 2 ^ 32
    fits n m h k = omega (arith, h, k)

-- ---- pieces

abbrev code_of : Piece → ℕ
code_of (Itself c) = c
code_of (Echar letter) = escaped letter
code_of (Uchar4 a b c d) = number_of_four a b c d
code_of (Uchar8 a b c d e f g h) = number_of_eight a b c d e f g h

record IsCode (piece : Piece) : Type 0 where
  spelled : text_of piece ≡ encode_utf8 (code_of piece)
  scalar_is : scalar (code_of piece) ≡ true

character_scalar : (c : ℕ) → is_character c ≡ true → scalar c ≡ true
character_scalar c h = grind (arith, nat_tests)

named_scalar : (c : ℕ) → is_named between.Quotes c ≡ true → scalar c ≡ true
unfolding is_named
named_scalar c h = character_scalar c h

letter_code : (letter : ℕ) → is_letter_of_escape between.Quotes letter ≡ true → IsCode (Echar letter)
letter_code letter h =
    let small : escaped letter < 128 = escaped_small letter (quoted_letter letter h) in
    let low : escaped letter < 55296 = omega (arith, small) in
    record { spelled = sym (encode_ascii (escaped letter) small); scalar_is = low_scalar (escaped letter) low }

quoted_code : (piece : Piece) → is_piece between.Quotes piece ≡ true → all_scalars (source piece) ≡ true → IsCode piece
quoted_code (Itself c) h s = record { spelled = refl; scalar_is = (and_parts (scalar c) true s).0 }
quoted_code (Echar letter) h s = letter_code letter h
quoted_code (Uchar4 a b c d) h s =
    record { spelled = refl; scalar_is = named_scalar (number_of_four a b c d) (and_parts (are_four_digits a b c d) (is_named between.Quotes (number_of_four a b c d)) h).1 }
quoted_code (Uchar8 a b c d e f g i) h s =
    record {
      spelled = refl;
      scalar_is = named_scalar (number_of_eight a b c d e f g i)
          (and_parts (are_four_digits a b c d && are_four_digits e f g i) (is_named between.Quotes (number_of_eight a b c d e f g i)) h).1;
    }

apostrophe_code : (piece : Piece) → is_apostrophe_piece piece ≡ true → all_scalars (source piece) ≡ true → IsCode piece
apostrophe_code (Itself c) h s = record { spelled = refl; scalar_is = (and_parts (scalar c) true s).0 }
apostrophe_code (Echar letter) h s = quoted_code (Echar letter) h s
apostrophe_code (Uchar4 a b c d) h s = quoted_code (Uchar4 a b c d) h s
apostrophe_code (Uchar8 a b c d e f g i) h s = quoted_code (Uchar8 a b c d e f g i) h s

named_parts : (c : ℕ) → is_named between.Brackets c ≡ true → (scalar c ≡ true) × (is_iri_character c ≡ true)
unfolding is_named
named_parts c h = let parts = and_parts (is_character c) (is_iri_character c) h in (character_scalar c parts.0, parts.1)

plain_iri : (c : ℕ) → is_plain between.Brackets c ≡ true → is_iri_character c ≡ true
unfolding is_plain
plain_iri c h = h

no_letter : (letter : ℕ) → is_letter_of_escape between.Brackets letter ≡ true → ⊥
unfolding is_letter_of_escape
no_letter letter h = cc

bracketed_code : (piece : Piece) → is_piece between.Brackets piece ≡ true → all_scalars (source piece) ≡ true → IsCode piece × (is_iri_character (code_of piece) ≡ true)
bracketed_code (Itself c) h s = (record { spelled = refl; scalar_is = (and_parts (scalar c) true s).0 }, plain_iri c h)
bracketed_code (Echar letter) h s = absurd (no_letter letter h)
bracketed_code (Uchar4 a b c d) h s =
    let n = named_parts (number_of_four a b c d) (and_parts (are_four_digits a b c d) (is_named between.Brackets (number_of_four a b c d)) h).1 in
    (record { spelled = refl; scalar_is = n.0 }, n.1)
bracketed_code (Uchar8 a b c d e f g i) h s =
    let n = named_parts (number_of_eight a b c d e f g i)
    (and_parts (are_four_digits a b c d && are_four_digits e f g i) (is_named between.Brackets (number_of_eight a b c d e f g i)) h).1 in
    (record { spelled = refl; scalar_is = n.0 }, n.1)

-- all pieces of a text
record AreCodes (pieces : List Piece) : Type 0 where
  spelled : flat_map text_of pieces ≡ encode_utf8_all (map code_of pieces)
  scalars : all_scalars (map code_of pieces) ≡ true

codes_are : (allowed : Piece → Bool) → ((piece : Piece) → allowed piece ≡ true → all_scalars (source piece) ≡ true → IsCode piece)
    → (pieces : List Piece) → AllByRecursion (λ piece. IsTrue (allowed piece)) pieces → all_scalars (flat_map source pieces) ≡ true → AreCodes pieces
codes_are allowed code [] h s = record { spelled = refl; scalars = refl }
codes_are allowed code (p ∷ ps) h s =
    let parts = scalars_split (source p) (flat_map source ps) s in
    let first = code p h.0 parts.0 in
    let rest = codes_are allowed code ps h.1 parts.1 in
    record {
      spelled = ap (λ (x : List ℕ). x ++ flat_map text_of ps) first.spelled ∙ ap (λ (x : List ℕ). encode_utf8 (code_of p) ++ x) rest.spelled;
      scalars = and_from (scalar (code_of p)) (all_scalars (map code_of ps)) first.scalar_is rest.scalars;
    }

iri_codes : (pieces : List Piece) → AllByRecursion (λ piece. IsTrue (is_piece between.Brackets piece)) pieces → all_scalars (flat_map source pieces) ≡ true
    → list_all is_iri_character (map code_of pieces) ≡ true
iri_codes [] h s = refl
iri_codes (p ∷ ps) h s =
    let parts = scalars_split (source p) (flat_map source ps) s in
    and_from (is_iri_character (code_of p)) (list_all is_iri_character (map code_of ps)) (bracketed_code p h.0 parts.0).1 (iri_codes ps h.1 parts.1)

some_source : (p : Piece) → 1 ≤ length (source p)
some_source (Itself c) = omega arith
some_source (Echar letter) = omega arith
some_source (Uchar4 a b c d) = omega arith
some_source (Uchar8 a b c d e f g h) = omega arith

fewer : (pieces : List Piece) → length (map code_of pieces) ≤ length (flat_map source pieces)
fewer [] = omega arith
fewer (p ∷ ps) = omega (arith, fewer ps, some_source p, length-append (source p) (flat_map source ps))

-- what stands between the first character and the last
record IsInner (inner characters : List ℕ) : Type 0 where
  scalars : all_scalars inner ≡ true
  shorter : length inner ≤ length characters

inner_of : (opening closing : ℕ) (inner characters : List ℕ) → characters ≡ opening ∷ inner ++ closing ∷ [] → all_scalars characters ≡ true → IsInner inner characters
inner_of opening closing inner characters e s =
    let all = subst (λ (x : List ℕ). all_scalars x ≡ true) e s in
    record {
      scalars = (scalars_split inner (closing ∷ []) (and_parts (scalar opening) (all_scalars (inner ++ closing ∷ [])) all).1).0;
      shorter = omega (arith, ap length e, length-append inner (closing ∷ []));
    }

-- ---- forms

enclosed_form : (allowed : Piece → Bool) → ((piece : Piece) → allowed piece ≡ true → all_scalars (source piece) ≡ true → IsCode piece)
    → (opening closing : ℕ) (characters form : List ℕ) → IsEnclosed allowed opening closing characters form → all_scalars characters ≡ true → length characters ≤ 65536 → IsForm form
enclosed_form allowed code opening closing characters form h s short =
    let inner = inner_of opening closing (flat_map source h.pieces) characters h.spelled s in
    let are = codes_are allowed code h.pieces h.each inner.scalars in
    form_from (map code_of h.pieces) form are.scalars (h.means ∙ are.spelled) (omega (arith, fewer h.pieces, inner.shorter, short))

pub string_form : (characters form : List ℕ) → IsString characters form → all_scalars characters ≡ true → length characters ≤ 65536 → IsForm form
string_form characters form (inl h) s short = enclosed_form (is_piece between.Quotes) quoted_code 34 34 characters form h s short
string_form characters form (inr h) s short = enclosed_form is_apostrophe_piece apostrophe_code 39 39 characters form h s short

pub ascii_form : (cs : List ℕ) → AreAscii cs → length cs ≤ 65536 → IsForm cs
ascii_form cs ascii short = form_from cs cs (ascii_scalars cs ascii) (sym (ascii_encoded cs ascii)) short

-- ---- IRIs

-- an IRI, by its characters
pub record HasIriCharacters (iri : List ℕ) : Type 0 where
  pub characters : List ℕ
  pub scalars : all_scalars characters ≡ true
  pub each : list_all is_iri_character characters ≡ true
  pub spelled : iri ≡ encode_utf8_all characters

pub is_iri : (iri : List ℕ) → HasIriCharacters iri → IsIri iri
is_iri iri h = subst IsIri (sym h.spelled) (iri_from h.characters h.scalars h.each)

pub iriref_iri : (characters iri : List ℕ) → IsIriref characters iri → all_scalars characters ≡ true → HasIriCharacters iri
iriref_iri characters iri h s =
    let inner = inner_of 60 62 (flat_map source h.pieces) characters h.spelled s in
    let are = codes_are (is_piece between.Brackets) (λ p k z. (bracketed_code p k z).0) h.pieces h.each inner.scalars in
    record {
      characters = map code_of h.pieces;
      scalars = are.scalars;
      each = iri_codes h.pieces h.each inner.scalars;
      spelled = h.means ∙ are.spelled;
    }

-- what may stand in a local part stands in an IRI
unfoldable in_local : ℕ → Bool
in_local c = (continues_name c || c == 58) || c == 46

abbrev excluded : List ℕ
excluded = codes "<>\"{}|^`\\"

none_excluded : AllByRecursion (λ k. in_local k ≡ false) excluded
unfolding in_local continues_name continues_variable begins_name is_base_character
none_excluded = (refl, (refl, (refl, (refl, (refl, (refl, (refl, (refl, (refl, tt)))))))))

abbrev counted : ℕ → ℕ → List ℕ
counted a n = range_with_len a n

low_apart : list_all (λ k. not (in_local k)) (counted 0 33) ≡ true
unfolding in_local continues_name continues_variable begins_name is_base_character
low_apart = refl

in_range : (test : ℕ → Bool) (a n c : ℕ) → list_all test (counted a n) ≡ true → a ≤ c → c < a + n → test c ≡ true
in_range test a zero c h low high = absurd (omega (arith, low, high))
in_range test a (suc n) c h low high =
    let parts = and_parts (test a) (list_all test (counted (a + 1) n)) h in
    elim (cases_lt a c) [
      | inl below ↦ in_range test (a + 1) n c parts.1 (omega (arith, below)) (omega (arith, high))
      | inr above ↦ let same : a ≡ c = omega (arith, low, above) in subst (λ (x : ℕ). test x ≡ true) same parts.0
    ]

not_both : (b : Bool) → b ≡ true → not b ≡ true → ⊥
not_both true h k = cc
not_both false h k = cc

none_of : (known : List ℕ) (c : ℕ) → AllByRecursion (λ k. in_local k ≡ false) known → in_local c ≡ true → list_any (λ k. k == c) known ≡ false
none_of [] c h e = refl
none_of (k ∷ known) c h e =
    ap (λ (b : Bool). b || list_any (λ x. x == c) known) (ne_eqb k c (λ same. clash (sym e ∙ sym (ap in_local same) ∙ h.0)))
    ∙ none_of known c h.1 e
  where
    clash : true ≡ false → ⊥
    clash w = cc

local_iri : (c : ℕ) → in_local c ≡ true → is_iri_character c ≡ true
unfolding is_iri_character
local_iri c h =
    and_from (nat_le 33 c) (not (list_any (λ k. k == c) excluded))
    (elim (cases_lt c 33) [
      | inl below ↦ absurd (not_both (in_local c) h (in_range (λ k. not (in_local k)) 0 33 c low_apart (omega arith) (omega (arith, below))))
      | inr above ↦ le-leb 33 c above
    ])
    (ap not (none_of excluded c none_excluded h))

begins_local : (c : ℕ) → (begins_name c || is_digit c || c == 58) ≡ true → in_local c ≡ true
unfolding in_local continues_name continues_variable
begins_local c h = by (begins_name c) (is_digit c) (c == 58) (c == 0xB7) (is_within 0x300 0x36F c) (is_within 0x203F 0x2040 c) (c == 45) (c == 46) h
  where
    by : (n d colon a b e f g : Bool) → (n || d || colon) ≡ true → ((((n || d || a || b || e) || f) || colon) || g) ≡ true
    by true d colon a b e f g h = refl
    by false true colon a b e f g h = refl
    by false false true a b e f g h = last a b e f
      where
        last : (a b e f : Bool) → ((((false || false || a || b || e) || f) || true) || g) ≡ true
        last true b e f = refl
        last false true e f = refl
        last false false true f = refl
        last false false false true = refl
        last false false false false = refl
    by false false false a b e f g h = absurd cc

folded : (c : ℕ) → ((continues_name c || c == 58) || c == 46) ≡ true → in_local c ≡ true
unfolding in_local
folded c h = h

locals_iri : (cs : List ℕ) → list_all (λ d. (continues_name d || d == 58) || d == 46) cs ≡ true → list_all is_iri_character cs ≡ true
locals_iri [] h = refl
locals_iri (c ∷ cs) h =
    let parts = and_parts ((continues_name c || c == 58) || c == 46) (list_all (λ d. (continues_name d || d == 58) || d == 46) cs) h in
    and_from (is_iri_character c) (list_all is_iri_character cs) (local_iri c (folded c parts.0)) (locals_iri cs parts.1)

pub local_part_iri : (letters : List ℕ) → IsLocal letters → list_all is_iri_character letters ≡ true
local_part_iri letters (inl none) = ap (list_all is_iri_character) none
local_part_iri [] (inr h) = absurd h
local_part_iri (c ∷ cs) (inr h) = and_from (is_iri_character c) (list_all is_iri_character cs) (local_iri c (begins_local c h.0)) (locals_iri cs h.1)

-- an IRI and a local part behind it
pub joined_iri : (base letters : List ℕ) → HasIriCharacters base → all_scalars letters ≡ true → IsLocal letters → HasIriCharacters (base ++ encode_utf8_all letters)
joined_iri base letters h s local = record {
  characters = h.characters ++ letters;
  scalars = scalars_append h.characters letters h.scalars s;
  each = all_append is_iri_character h.characters letters h.each (local_part_iri letters local);
  spelled = ap (λ (x : List ℕ). x ++ encode_utf8_all letters) h.spelled ∙ sym (encodes-append h.characters letters);
}

-- ---- datatypes

low_iri : (cs : List ℕ) → list_all is_low cs ≡ true → list_all is_iri_character cs ≡ true → IsIri cs
low_iri cs low each = iri_ascii cs (ascii_all is_low low_small cs low) each

pub string_iri : IsIri xsd_string
unfolding xsd_string is_iri_character
string_iri = low_iri xsd_string refl refl

pub integer_iri : IsIri xsd_integer
unfolding xsd_integer is_iri_character
integer_iri = low_iri xsd_integer refl refl

pub decimal_iri : IsIri xsd_decimal
unfolding xsd_decimal is_iri_character
decimal_iri = low_iri xsd_decimal refl refl

pub boolean_iri : IsIri xsd_boolean
unfolding xsd_boolean is_iri_character
boolean_iri = low_iri xsd_boolean refl refl

pub type_iri : IsIri rdf_type
unfolding rdf_type is_iri_character
type_iri = low_iri rdf_type refl refl
