-- The texts that the code makes of tokens are those that the rules of tokens speak of.
use Rattle.std.proofs.Common.{◌≡◌, ℕ, ◌+◌, ◌-◌, ◌*◌, ◌<◌, arith, Bool, true, false, cond, ◌||◌, ◌&&◌, ◌==◌, List, [], ◌∷◌, ◌++◌, drop, map, Option, Some, None, refl, sym, ap, subst, ◌∙◌, inl, inr}
use Rattle.std.specs.Prelude.{nat_le, nat_lt, codes}
use Rattle.std.specs.Char.{encode_utf8, digit_value, is_ascii_hexdigit, to_ascii_lowercase, to_ascii_uppercase}
use Rattle.std.specs.List.{list_all, list_any, flat_map, AllByRecursion}
use Rattle.std.specs.Str.{encode_utf8_all}
use Rattle.std.proofs.lemmas.Bool.{and_parts, or_cases, eqb-true}
use Rattle.std.proofs.lemmas.Bool.Decides.{nat_tests}
use Rattle.std.proofs.lemmas.Str.{encode_ascii}
use Rattle.term_core.specs.Characters.{is_digit, is_lower_letter}
use Rattle.term_core.specs.Term.{IsGroup, IsTag}
use Rattle.nt_text.specs.declared.pieces.Between.TheVariants as between
use Rattle.nt_text.specs.Escapes.{escaped, is_letter_of_escape}
use Rattle.query_text.specs.declared.kind.TokenKind.{TokenKind}
use Rattle.query_text.specs.declared.text_scan.Enclosure.{Enclosure}
use Rattle.query_text.specs.declared.text_scan.Enclosure.TheVariants.{Brackets, Quotes, Apostrophes}
use Rattle.query_text.specs.declared.text_scan.TextScan.{TextScan}
use Rattle.query_text.specs.declared.text_scan.TextScan.TheVariants as texts
use Rattle.query_text.specs.Tokens.{IsEnclosed, IsString, IsVariable, IsLabel, IsLangtag, IsInteger, IsDecimal, is_number, without_sign}
use Rattle.query_text.specs.Scanning.{opening, closing, kind_of, allowed, is_letter_in, is_named_in, digits, escaped as escape', text_advance}
use Rattle.query_text.specs.Values.{gained, meant}
use Rattle.query_text.specs.Building.{name_text, label_text, lower_text, gain, encoded, text_read, inner_text, string_text, quote_of}
use Rattle.query_text.proofs.TextRuns.{text_run, text_again, rest_of}
use Rattle.query_text.proofs.Values.{enclosed_is}

-- ---- ASCII, where each character is one byte

abbrev pub AreAscii : List ℕ → Type 0
AreAscii cs = AllByRecursion (λ c. c < 128) cs

pub ascii_encoded : (cs : List ℕ) → AreAscii cs → encode_utf8_all cs ≡ cs
ascii_encoded [] h = refl
ascii_encoded (c ∷ cs) h =
    ap (λ (x : List ℕ). x ++ encode_utf8_all cs) (encode_ascii c h.0) ∙ ap (λ (x : List ℕ). c ∷ x) (ascii_encoded cs h.1)

ascii_append : (xs ys : List ℕ) → AreAscii xs → AreAscii ys → AreAscii (xs ++ ys)
ascii_append [] ys h k = k
ascii_append (x ∷ xs) ys h k = (h.0, ascii_append xs ys h.1 k)

pub ascii_all : (test : ℕ → Bool) → ((c : ℕ) → test c ≡ true → c < 128) → (cs : List ℕ) → list_all test cs ≡ true → AreAscii cs
ascii_all test low [] h = tt
ascii_all test low (c ∷ cs) h = let parts = and_parts (test c) (list_all test cs) h in (low c parts.0, ascii_all test low cs parts.1)

abbrev pub is_low : ℕ → Bool
is_low c = nat_lt c 128

pub low_small : (c : ℕ) → is_low c ≡ true → c < 128
low_small c h = grind (arith, nat_tests)

digit_small : (c : ℕ) → is_digit c ≡ true → c < 128
digit_small c h = grind (arith, nat_tests)

letter_small : (c : ℕ) → is_lower_letter c ≡ true → c < 128
letter_small c h = grind (arith, nat_tests)

letter_digit_small : (c : ℕ) → (is_lower_letter c || is_digit c) ≡ true → c < 128
letter_digit_small c h = grind (arith, nat_tests)

upper_small : (c : ℕ) → to_ascii_uppercase c < 128 → c < 128
upper_small c h = grind (arith, nat_tests)

lower_small : (c : ℕ) → c < 128 → to_ascii_lowercase c < 128
lower_small c h = grind (arith, nat_tests)

sign_small : (c : ℕ) → (c == 43 || c == 45) ≡ true → c < 128
sign_small c h = grind (arith, nat_tests)

upper_ascii : (cs : List ℕ) → AreAscii (map to_ascii_uppercase cs) → AreAscii cs
upper_ascii [] h = tt
upper_ascii (c ∷ cs) h = (upper_small c h.0, upper_ascii cs h.1)

lower_ascii : (cs : List ℕ) → AreAscii cs → AreAscii (map to_ascii_lowercase cs)
lower_ascii [] h = tt
lower_ascii (c ∷ cs) h = (lower_small c h.0, lower_ascii cs h.1)

-- a word of the grammar, in lower case
pub word_ascii : (word characters : List ℕ) → list_all is_low word ≡ true → map to_ascii_uppercase characters ≡ word → AreAscii (map to_ascii_lowercase characters)
word_ascii word characters low e = lower_ascii characters (upper_ascii characters (subst AreAscii (sym e) (ascii_all is_low low_small word low)))

pub word_lower : (word characters : List ℕ) → list_all is_low word ≡ true → map to_ascii_uppercase characters ≡ word
    → map to_ascii_lowercase characters ≡ lower_text characters
word_lower word characters low e = sym (ascii_encoded (map to_ascii_lowercase characters) (word_ascii word characters low e))

-- ---- numbers

digits_ascii : (cs : List ℕ) → list_all is_digit cs ≡ true → AreAscii cs
digits_ascii = ascii_all is_digit digit_small

number_ascii : (cs : List ℕ) → is_number cs ≡ true → AreAscii cs
number_ascii [] h = tt
number_ascii (c ∷ cs) h = let parts = and_parts (is_digit c) (list_all is_digit cs) h in (digit_small c parts.0, digits_ascii cs parts.1)

unsigned_ascii : (cs : List ℕ) → AreAscii (without_sign cs) → AreAscii cs
unsigned_ascii [] h = tt
unsigned_ascii (c ∷ cs) h = by (c == 43 || c == 45) refl h
  where
    by : (b : Bool) → (c == 43 || c == 45) ≡ b → AreAscii (cond b cs (c ∷ cs)) → AreAscii (c ∷ cs)
    by true e k = (sign_small c e, k)
    by false e k = k

pub integer_ascii : (cs : List ℕ) → IsInteger cs → AreAscii cs
integer_ascii cs h = unsigned_ascii cs (number_ascii (without_sign cs) h)

pub decimal_ascii : (cs : List ℕ) → IsDecimal cs → AreAscii cs
decimal_ascii cs (whole, part, pointed, some) =
    let point : 46 < 128 = omega arith in
    unsigned_ascii cs (subst AreAscii (sym pointed.spelled)
    (ascii_append whole (46 ∷ part) (digits_ascii whole pointed.whole_is) (point, digits_ascii part pointed.part_is)))

-- ---- names and tags

tail_of : (b c : ℕ) (bs cs : List ℕ) → b ∷ bs ≡ c ∷ cs → bs ≡ cs
tail_of b c bs cs e = cc

pub variable_is : (characters name : List ℕ) → IsVariable characters name → name ≡ name_text characters
variable_is characters name h = h.name_is ∙ ap (λ (x : List ℕ). encode_utf8_all (drop 1 x)) (sym h.spelled)

pub label_is : (characters label : List ℕ) → IsLabel characters label → label ≡ label_text characters
label_is characters label h = h.label_is ∙ ap (λ (x : List ℕ). encode_utf8_all (drop 2 x)) (sym h.spelled)

subtags_ascii : (subtags : List (List ℕ)) → AllByRecursion (IsGroup (λ c. is_lower_letter c || is_digit c)) subtags → AreAscii (flat_map (λ subtag. 45 ∷ subtag) subtags)
subtags_ascii [] h = tt
subtags_ascii (s ∷ ss) h =
    let hyphen : 45 < 128 = omega arith in
    (hyphen, ascii_append s (flat_map (λ subtag. 45 ∷ subtag) ss) (ascii_all (λ c. is_lower_letter c || is_digit c) letter_digit_small s h.0.1) (subtags_ascii ss h.1))

tag_ascii : (tag : List ℕ) → IsTag tag → AreAscii tag
tag_ascii tag h =
    subst AreAscii (sym h.spelled)
    (ascii_append h.language (flat_map (λ subtag. 45 ∷ subtag) h.subtags) (ascii_all is_lower_letter letter_small h.language h.letters.1) (subtags_ascii h.subtags h.groups))

pub langtag_is : (characters tag : List ℕ) → IsLangtag characters tag → tag ≡ lower_text (drop 1 characters)
langtag_is characters tag h =
    sym (ascii_encoded tag (tag_ascii tag h.tag_is)) ∙ ap encode_utf8_all h.lower ∙ ap (λ (x : List ℕ). lower_text (drop 1 x)) (sym h.spelled)

-- ---- texts with escapes: where the scan goes through, what is read is what the text means

letters_ascii : (known : List ℕ) (c : ℕ) → AreAscii known → list_any (λ k. k == c) known ≡ true → c < 128
letters_ascii [] c h e = absurd cc
letters_ascii (k ∷ known) c h e =
    elim (or_cases (k == c) (list_any (λ x. x == c) known) e) [
      | inl same ↦ subst (λ (x : ℕ). x < 128) (eqb-true k c same) h.0
      | inr more ↦ letters_ascii known c h.1 more
    ]

-- the letter of an escape, and what it means
pub quoted_letter : (c : ℕ) → is_letter_of_escape between.Quotes c ≡ true → c < 128
unfolding is_letter_of_escape
quoted_letter c h = letters_ascii (codes "tbnrf\"'\\") c (ascii_all is_low low_small (codes "tbnrf\"'\\") refl) h

no_letter : (c : ℕ) → is_letter_of_escape between.Brackets c ≡ true → ⊥
unfolding is_letter_of_escape
no_letter c h = cc

escape_letter : (e : Enclosure) (c : ℕ) → is_letter_in e c ≡ true → c < 128
escape_letter Brackets c h = absurd (no_letter c h)
escape_letter Quotes c h = quoted_letter c h
escape_letter Apostrophes c h = quoted_letter c h

pub escaped_small : (c : ℕ) → c < 128 → escaped c < 128
escaped_small c h = grind (arith, nat_tests)

escape_gains : (e : Enclosure) (c : ℕ) (cs : List ℕ) (kind : TokenKind) → text_run (escape' e c) cs ≡ Some kind
    → encoded (gain (texts.Escape e) c) ≡ gained (texts.Escape e) c
escape_gains e c cs kind h =
    by (c == 117) (c == 85) (is_letter_in e c) (λ l. encode_ascii (escaped c) (escaped_small c (escape_letter e c l))) h
  where
    by : (a b l : Bool) → (l ≡ true → encode_utf8 (escaped c) ≡ escaped c ∷ [])
        → text_run (cond a (Some (texts.Digits e 4 0)) (cond b (Some (texts.Digits e 8 0)) (cond l (Some (texts.Inside e)) None))) cs ≡ Some kind
        → encoded (cond (a || b) None (Some (escaped c))) ≡ cond (a || b) [] (escaped c ∷ [])
    by true b l k r = refl
    by false true l k r = refl
    by false false true k r = k refl
    by false false false k r = absurd cc

digit_gains : (e : Enclosure) (left value c : ℕ) (cs : List ℕ) (kind : TokenKind) → text_run (digits e left value c) cs ≡ Some kind
    → encoded (gain (texts.Digits e left value) c) ≡ gained (texts.Digits e left value) c
digit_gains e left value c cs kind h =
    by (nat_lt 1 left) (nat_le value 0x10FFFF && is_ascii_hexdigit c) (is_named_in e number) h
  where
    number : ℕ
    number = value * 16 + digit_value c

    by : (more good named : Bool)
        → text_run (cond good (cond more (Some (texts.Digits e (left - 1) number)) (cond named (Some (texts.Inside e)) None)) None) cs ≡ Some kind
        → encoded (cond more None (cond good (cond named (Some number) None) None)) ≡ cond more [] (encode_utf8 number)
    by true good named r = refl
    by false true true r = refl
    by false true false r = absurd cc
    by false false named r = absurd cc

inside_gains : (e : Enclosure) (c : ℕ) → encoded (gain (texts.Inside e) c) ≡ gained (texts.Inside e) c
inside_gains e c = by (c == closing e || c == 92)
  where
    by : (b : Bool) → encoded (cond b None (Some c)) ≡ cond b [] (encode_utf8 c)
    by true = refl
    by false = refl

gain_is : (scan : TextScan) (c : ℕ) (cs : List ℕ) (kind : TokenKind) → text_run (text_advance scan c) cs ≡ Some kind → encoded (gain scan c) ≡ gained scan c
gain_is (texts.Inside e) c cs kind h = inside_gains e c
gain_is (texts.Escape e) c cs kind h = escape_gains e c cs kind h
gain_is (texts.Digits e left value) c cs kind h = digit_gains e left value c cs kind h
gain_is (texts.Opened e) c cs kind h = refl
gain_is (texts.Empty e) c cs kind h = refl
gain_is (texts.Closed e) c cs kind h = refl
gain_is texts.Long c cs kind h = refl

read_meant : (scan : Option TextScan) (cs : List ℕ) (kind : TokenKind) → text_run scan cs ≡ Some kind → text_read scan cs ≡ meant scan cs
read_meant None cs kind h = absurd cc
read_meant (Some scan) [] kind h = refl
read_meant (Some scan) (c ∷ cs) kind h =
    ap (λ (x : List ℕ). x ++ text_read (text_advance scan c) cs) (gain_is scan c cs kind h)
    ∙ ap (λ (x : List ℕ). gained scan c ++ x) (read_meant (text_advance scan c) cs kind h)

pub inner_is : (e : Enclosure) (characters text : List ℕ) → IsEnclosed (allowed e) (opening e) (closing e) characters text → text ≡ inner_text e characters
inner_is e characters text h =
    let inner : rest_of e h.pieces ≡ drop 1 characters = ap (drop 1) (sym h.spelled) in
    enclosed_is e characters text h
    ∙ sym (read_meant (Some (texts.Inside e)) (drop 1 characters) (kind_of e)
    (subst (λ (x : List ℕ). text_run (Some (texts.Inside e)) x ≡ Some (kind_of e)) inner (text_again e h.pieces h.each)))

pub string_is : (characters form : List ℕ) → IsString characters form → form ≡ string_text characters
string_is characters form (inl h) = inner_is Quotes characters form h ∙ ap (λ (e : Enclosure). inner_text e characters) (ap quote_of (sym h.spelled))
string_is characters form (inr h) = inner_is Apostrophes characters form h ∙ ap (λ (e : Enclosure). inner_text e characters) (ap quote_of (sym h.spelled))
