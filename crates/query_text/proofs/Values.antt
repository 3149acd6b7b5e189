-- A token has one meaning.
use Rattle.std.proofs.Common.{◌≡◌, ℕ, suc, ◌<◌, ◌≤◌, arith, Bool, true, false, cond, ◌||◌, ◌&&◌, ◌==◌, List, [], ◌∷◌, ◌++◌, drop, map, Option, Some, None, refl, sym, ap, ◌∙◌, inl, inr}
use Rattle.std.specs.Prelude.{IsTrue, nat_le, nat_lt}
use Rattle.std.specs.Char.{encode_utf8, is_ascii_hexdigit}
use Rattle.std.specs.List.{flat_map, AllByRecursion}
use Rattle.std.proofs.lemmas.Bool.{and_parts, and_from, cond-true, cond-false, lt-ltb, le-leb}
use Rattle.nt_text.specs.Escapes.{Piece, Itself, Echar, Uchar4, Uchar8, source, escaped, are_four_digits, number_of_four, number_of_eight}
use Rattle.query_text.specs.declared.text_scan.Enclosure.{Enclosure}
use Rattle.query_text.specs.declared.text_scan.Enclosure.TheVariants.{Brackets, Quotes, Apostrophes}
use Rattle.query_text.specs.declared.text_scan.TextScan.{TextScan}
use Rattle.query_text.specs.declared.text_scan.TextScan.TheVariants as texts
use Rattle.query_text.specs.Tokens.{text_of, IsEnclosed, IsIriref, IsString, IsVariable, IsLabel, IsLangtag, IsPrefixedName}
use Rattle.query_text.specs.Scanning.{opening, closing, allowed, is_plain_in, is_letter_in, is_named_in, inside, escaped as escape', digits, digit_read}
use Rattle.query_text.specs.Values.{gained, meant}
use Rattle.std.specs.Char.{to_ascii_lowercase}
use Rattle.std.specs.Str.{encode_utf8_all}
use Rattle.query_text.proofs.Prefixes.{prefix_is, local_is}
use Rattle.query_text.proofs.TextRuns.{rest_of, plain_apart, letter_apart, named_small, allowed_four, allowed_eight, four_again, four_value, eight_value, onto, other_digit}

abbrev on : List ℕ → Option TextScan → List ℕ
on cs scan = meant scan cs

both : (xs ys us vs : List ℕ) → xs ≡ us → ys ≡ vs → xs ++ ys ≡ us ++ vs
both xs ys us vs e f = ap (λ (x : List ℕ). x ++ ys) e ∙ ap (λ (x : List ℕ). us ++ x) f

no_code : (c : ℕ) (a b : Bool) → a ≡ false → b ≡ false → (xs ys : List ℕ) → cond (a || b) xs ys ≡ ys
no_code c a b p q xs ys = ap (λ (x : Bool). cond (x || b) xs ys) p ∙ ap (λ (x : Bool). cond x xs ys) q

-- one digit of more than one, and the last
digit_gains : (e : Enclosure) (n value c : ℕ) (cs : List ℕ) → is_ascii_hexdigit c ≡ true → value ≤ 0x10FFFF
    → meant (Some (texts.Digits e (suc (suc n)) value)) (c ∷ cs) ≡ meant (Some (texts.Digits e (suc n) (onto value c))) cs
digit_gains e n value c cs h small =
    let more : 1 < suc (suc n) = omega arith in
    both (gained (texts.Digits e (suc (suc n)) value) c) (meant (digits e (suc (suc n)) value c) cs) [] (meant (Some (texts.Digits e (suc n) (onto value c))) cs)
    (cond-true (nat_lt 1 (suc (suc n))) [] (encode_utf8 (onto value c)) (lt-ltb 1 (suc (suc n)) more))
    (ap (on cs) (cond-true (nat_le value 0x10FFFF && is_ascii_hexdigit c) (digit_read e (suc (suc n)) (onto value c)) None
    (and_from (nat_le value 0x10FFFF) (is_ascii_hexdigit c) (le-leb value 0x10FFFF small) h)) ∙ ap (on cs) (other_digit e n (onto value c)))

last_gains : (e : Enclosure) (value c : ℕ) (cs : List ℕ) → is_ascii_hexdigit c ≡ true → value ≤ 0x10FFFF → is_named_in e (onto value c) ≡ true
    → meant (Some (texts.Digits e 1 value)) (c ∷ cs) ≡ encode_utf8 (onto value c) ++ meant (Some (texts.Inside e)) cs
last_gains e value c cs h small named =
    ap (λ (x : List ℕ). encode_utf8 (onto value c) ++ x) (
    ap (on cs) (cond-true (nat_le value 0x10FFFF && is_ascii_hexdigit c) (digit_read e 1 (onto value c)) None
    (and_from (nat_le value 0x10FFFF) (is_ascii_hexdigit c) (le-leb value 0x10FFFF small) h))
    ∙ ap (on cs) (cond-true (is_named_in e (onto value c)) (Some (texts.Inside e)) None named))

uchar4_gains : (e : Enclosure) (a b c d : ℕ) (cs : List ℕ) → allowed e (Uchar4 a b c d) ≡ true
    → meant (Some (texts.Digits e 4 0)) (a ∷ b ∷ c ∷ d ∷ cs) ≡ encode_utf8 (number_of_four a b c d) ++ meant (Some (texts.Inside e)) cs
uchar4_gains e a b c d cs h =
    let parts = and_parts (are_four_digits a b c d) (is_named_in e (number_of_four a b c d)) (sym (allowed_four e a b c d) ∙ h) in
    let each = four_again a b c d parts.0 in
    let named : is_named_in e (onto (onto (onto (onto 0 a) b) c) d) ≡ true = ap (is_named_in e) (four_value a b c d) ∙ parts.1 in
    let small : onto (onto (onto (onto 0 a) b) c) d ≤ 0x10FFFF = named_small e (onto (onto (onto (onto 0 a) b) c) d) named in
    digit_gains e 2 0 a (b ∷ c ∷ d ∷ cs) each.0 (omega arith)
    ∙ digit_gains e 1 (onto 0 a) b (c ∷ d ∷ cs) each.1 (omega arith)
    ∙ digit_gains e 0 (onto (onto 0 a) b) c (d ∷ cs) each.2 (omega arith)
    ∙ last_gains e (onto (onto (onto 0 a) b) c) d cs each.3 (omega arith) named
    ∙ ap (λ (x : ℕ). encode_utf8 x ++ meant (Some (texts.Inside e)) cs) (four_value a b c d)

uchar8_gains : (e : Enclosure) (a b c d f g h i : ℕ) (cs : List ℕ) → allowed e (Uchar8 a b c d f g h i) ≡ true
    → meant (Some (texts.Digits e 8 0)) (a ∷ b ∷ c ∷ d ∷ f ∷ g ∷ h ∷ i ∷ cs) ≡ encode_utf8 (number_of_eight a b c d f g h i) ++ meant (Some (texts.Inside e)) cs
uchar8_gains e a b c d f g h i cs is =
    let parts = and_parts (are_four_digits a b c d && are_four_digits f g h i) (is_named_in e (number_of_eight a b c d f g h i))
    (sym (allowed_eight e a b c d f g h i) ∙ is) in
    let halves = and_parts (are_four_digits a b c d) (are_four_digits f g h i) parts.0 in
    let high = four_again a b c d halves.0 in
    let low = four_again f g h i halves.1 in
    let value = onto (onto (onto (onto 0 a) b) c) d in
    let named : is_named_in e (onto (onto (onto (onto value f) g) h) i) ≡ true = ap (is_named_in e) (eight_value a b c d f g h i) ∙ parts.1 in
    let small : onto (onto (onto (onto value f) g) h) i ≤ 0x10FFFF = named_small e (onto (onto (onto (onto value f) g) h) i) named in
    digit_gains e 6 0 a (b ∷ c ∷ d ∷ f ∷ g ∷ h ∷ i ∷ cs) high.0 (omega arith)
    ∙ digit_gains e 5 (onto 0 a) b (c ∷ d ∷ f ∷ g ∷ h ∷ i ∷ cs) high.1 (omega arith)
    ∙ digit_gains e 4 (onto (onto 0 a) b) c (d ∷ f ∷ g ∷ h ∷ i ∷ cs) high.2 (omega arith)
    ∙ digit_gains e 3 (onto (onto (onto 0 a) b) c) d (f ∷ g ∷ h ∷ i ∷ cs) high.3 (omega arith)
    ∙ digit_gains e 2 value f (g ∷ h ∷ i ∷ cs) low.0 (omega arith)
    ∙ digit_gains e 1 (onto value f) g (h ∷ i ∷ cs) low.1 (omega arith)
    ∙ digit_gains e 0 (onto (onto value f) g) h (i ∷ cs) low.2 (omega arith)
    ∙ last_gains e (onto (onto (onto value f) g) h) i cs low.3 (omega arith) named
    ∙ ap (λ (x : ℕ). encode_utf8 x ++ meant (Some (texts.Inside e)) cs) (eight_value a b c d f g h i)

closing_gains : (e : Enclosure) → meant (Some (texts.Inside e)) (closing e ∷ []) ≡ []
closing_gains Brackets = refl
closing_gains Quotes = refl
closing_gains Apostrophes = refl

backslash : (e : Enclosure) (cs : List ℕ) → meant (Some (texts.Inside e)) (92 ∷ cs) ≡ meant (Some (texts.Escape e)) cs
backslash Brackets cs = refl
backslash Quotes cs = refl
backslash Apostrophes cs = refl

-- the pieces mean what the text is read to mean
pub pieces_meant : (e : Enclosure) (pieces : List Piece) → AllByRecursion (λ piece. IsTrue (allowed e piece)) pieces
    → meant (Some (texts.Inside e)) (rest_of e pieces) ≡ flat_map text_of pieces
pieces_meant e [] each = closing_gains e
pieces_meant e (Itself c ∷ pieces) each =
    let apart = plain_apart e c each.0 in
    let rest = rest_of e pieces in
    both (gained (texts.Inside e) c) (meant (inside e c) rest) (encode_utf8 c) (flat_map text_of pieces)
    (no_code c (c == closing e) (c == 92) apart.0 apart.1 [] (encode_utf8 c))
    (ap (on rest) (cond-false (c == closing e) (Some (texts.Closed e)) (cond (c == 92) (Some (texts.Escape e)) (cond (is_plain_in e c) (Some (texts.Inside e)) None)) apart.0
    ∙ cond-false (c == 92) (Some (texts.Escape e)) (cond (is_plain_in e c) (Some (texts.Inside e)) None) apart.1
    ∙ cond-true (is_plain_in e c) (Some (texts.Inside e)) None apart.2) ∙ pieces_meant e pieces each.1)
pieces_meant e (Echar c ∷ pieces) each =
    let apart = letter_apart e c each.0 in
    let rest = rest_of e pieces in
    backslash e (c ∷ rest)
    ∙ both (gained (texts.Escape e) c) (meant (escape' e c) rest) (escaped c ∷ []) (flat_map text_of pieces)
    (no_code c (c == 117) (c == 85) apart.0 apart.1 [] (escaped c ∷ []))
    (ap (on rest) (cond-false (c == 117) (Some (texts.Digits e 4 0)) (cond (c == 85) (Some (texts.Digits e 8 0)) (cond (is_letter_in e c) (Some (texts.Inside e)) None)) apart.0
    ∙ cond-false (c == 85) (Some (texts.Digits e 8 0)) (cond (is_letter_in e c) (Some (texts.Inside e)) None) apart.1
    ∙ cond-true (is_letter_in e c) (Some (texts.Inside e)) None each.0) ∙ pieces_meant e pieces each.1)
pieces_meant e (Uchar4 a b c d ∷ pieces) each =
    let rest = rest_of e pieces in
    backslash e (117 ∷ a ∷ b ∷ c ∷ d ∷ rest) ∙ uchar4_gains e a b c d rest each.0
    ∙ ap (λ (x : List ℕ). encode_utf8 (number_of_four a b c d) ++ x) (pieces_meant e pieces each.1)
pieces_meant e (Uchar8 a b c d f g h i ∷ pieces) each =
    let rest = rest_of e pieces in
    backslash e (85 ∷ a ∷ b ∷ c ∷ d ∷ f ∷ g ∷ h ∷ i ∷ rest) ∙ uchar8_gains e a b c d f g h i rest each.0
    ∙ ap (λ (x : List ℕ). encode_utf8 (number_of_eight a b c d f g h i) ++ x) (pieces_meant e pieces each.1)

-- so an enclosed text has one meaning
pub enclosed_is : (e : Enclosure) (characters text : List ℕ) → IsEnclosed (allowed e) (opening e) (closing e) characters text
    → text ≡ meant (Some (texts.Inside e)) (drop 1 characters)
enclosed_is e characters text r =
    r.means ∙ sym (pieces_meant e r.pieces r.each) ∙ ap (λ (x : List ℕ). meant (Some (texts.Inside e)) (drop 1 x)) (sym r.spelled)

pub iriref_same : (characters one other : List ℕ) → IsIriref characters one → IsIriref characters other → one ≡ other
iriref_same characters one other a b = enclosed_is Brackets characters one a ∙ sym (enclosed_is Brackets characters other b)

first_of : (b c : ℕ) (bs cs : List ℕ) → b ∷ bs ≡ c ∷ cs → b ≡ c
first_of b c bs cs e = cc

two_quotes : (xs ys : List ℕ) → 34 ∷ xs ≡ 39 ∷ ys → ⊥
two_quotes xs ys e = let wrong : 34 ≡ 39 = first_of 34 39 xs ys e in omega (arith, wrong)

pub string_same : (characters one other : List ℕ) → IsString characters one → IsString characters other → one ≡ other
string_same characters one other (inl a) (inl b) = enclosed_is Quotes characters one a ∙ sym (enclosed_is Quotes characters other b)
string_same characters one other (inr a) (inr b) = enclosed_is Apostrophes characters one a ∙ sym (enclosed_is Apostrophes characters other b)
string_same characters one other (inl a) (inr b) =
    absurd (two_quotes (flat_map source a.pieces ++ 34 ∷ []) (flat_map source b.pieces ++ 39 ∷ []) (sym a.spelled ∙ b.spelled))
string_same characters one other (inr a) (inl b) =
    absurd (two_quotes (flat_map source b.pieces ++ 34 ∷ []) (flat_map source a.pieces ++ 39 ∷ []) (sym b.spelled ∙ a.spelled))

-- ---- names

tail_of : (b c : ℕ) (bs cs : List ℕ) → b ∷ bs ≡ c ∷ cs → bs ≡ cs
tail_of b c bs cs e = cc

pub variable_same : (characters one other : List ℕ) → IsVariable characters one → IsVariable characters other → one ≡ other
variable_same characters one other a b =
    a.name_is ∙ ap encode_utf8_all (tail_of a.mark b.mark a.letters b.letters (sym a.spelled ∙ b.spelled)) ∙ sym b.name_is

pub label_same : (characters one other : List ℕ) → IsLabel characters one → IsLabel characters other → one ≡ other
label_same characters one other a b =
    a.label_is ∙ ap encode_utf8_all (tail_of 58 58 a.letters b.letters (tail_of 95 95 (58 ∷ a.letters) (58 ∷ b.letters) (sym a.spelled ∙ b.spelled))) ∙ sym b.label_is

pub langtag_same : (characters one other : List ℕ) → IsLangtag characters one → IsLangtag characters other → one ≡ other
langtag_same characters one other a b =
    a.lower ∙ ap (map to_ascii_lowercase) (tail_of 64 64 a.written b.written (sym a.spelled ∙ b.spelled)) ∙ sym b.lower

pub prefix_same : (characters one first other second : List ℕ) → IsPrefixedName characters one first → IsPrefixedName characters other second
    → (one ≡ other) × (first ≡ second)
prefix_same characters one first other second a b = (
  sym (prefix_is characters one first a) ∙ prefix_is characters other second b,
  a.local_is ∙ ap encode_utf8_all (sym (local_is characters one first a) ∙ local_is characters other second b) ∙ sym b.local_is,
)
