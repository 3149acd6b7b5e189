-- The tokens of all kinds, character by character: what is accepted is what the rules say.
use Rattle.std.proofs.Common.{◌≡◌, ℕ, arith, Bool, true, false, cond, ◌||◌, ◌==◌, ◌⊎◌, List, [], ◌∷◌, ◌++◌, map, Option, Some, None, refl, sym, ap, subst, ◌∙◌, inl, inr}
use Rattle.std.specs.Prelude.{codes, option_map}
use Rattle.std.specs.Char.{to_ascii_lowercase}
use Rattle.std.specs.List.{list_all, list_any, flat_map, AllByRecursion}
use Rattle.std.specs.Str.{encode_utf8_all}
use Rattle.std.proofs.lemmas.Bool.{and_parts, and_from, or_cases, eqb-true}
use Rattle.std.proofs.lemmas.Bool.Decides.{nat_tests}
use Rattle.term_core.specs.Characters.{is_digit, is_letter, is_base_character}
use Rattle.nt_text.specs.Escapes.{source}
use Rattle.term_core.specs.Term.{IsTag}
use Rattle.query_text.specs.declared.kind.TokenKind.{TokenKind}
use Rattle.query_text.specs.declared.kind.TokenKind.TheVariants as kinds
use Rattle.query_text.specs.declared.text_scan.Enclosure.TheVariants.{Brackets, Quotes, Apostrophes}
use Rattle.query_text.specs.declared.text_scan.TextScan.{TextScan}
use Rattle.query_text.specs.declared.text_scan.TextScan.TheVariants as texts
use Rattle.query_text.specs.declared.tag_scan.TagScan.{TagScan}
use Rattle.query_text.specs.declared.tag_scan.TagScan.TheVariants as tags
use Rattle.query_text.specs.declared.name_scan.NameScan.{NameScan}
use Rattle.query_text.specs.declared.name_scan.NameScan.TheVariants as names
use Rattle.query_text.specs.declared.number_scan.NumberScan.{NumberScan}
use Rattle.query_text.specs.declared.number_scan.NumberScan.TheVariants as numbers
use Rattle.query_text.specs.declared.scan.Scan.{Scan}
use Rattle.query_text.specs.declared.scan.Scan.TheVariants as scans
use Rattle.query_text.specs.Characters.{continues_name, continues_word}
use Rattle.query_text.specs.Tokens.{text_of, IsIriref, IsString, IsLangtag, IsVariable, IsLabel, IsPrefix, IsLocal, IsLong, IsSymbolToken, IsOf, is_name}
use Rattle.query_text.specs.Scanning.{text_advance, tag_advance, name_advance, number_advance, is_lone_symbol, begin_mark, begin, advance, accepted}
use Rattle.query_text.proofs.Choices.{split, only, when_true, when_false}
use Rattle.query_text.proofs.Dotted.{dotted, dotted_takes, dotted_again}
use Rattle.query_text.proofs.NameRuns.{name_run, mark_takes, mark_again, underscore_takes, underscore_again, colon_takes, colon_again, IsPrefixRest, prefix_takes, prefix_again, word_takes, word_again, word_prefix_again}
use Rattle.query_text.proofs.NumberRuns.{number_run, is_sign, IsUnsigned, integer_takes, dot_takes, sign_takes, Begins, with_digit_first, with_dot_first, unsigned_begins, sign_run, IsNumeral, numeral_of, plain_number, signed_number}
use Rattle.query_text.proofs.TagRuns.{tag_run, at_takes, at_again}
use Rattle.query_text.proofs.TextRuns.{text_run, IsTextRest, IsLongRest, text_takes, text_again, opened_takes, opened_again, long_again}

-- the kind of the token that the characters are, from what has been read before them
abbrev pub run : Option Scan → List ℕ → Option TokenKind
run None cs = None
run (Some scan) [] = accepted scan
run (Some scan) (c ∷ cs) = run (advance scan c) cs

abbrev on : List ℕ → Option Scan → Option TokenKind
on cs scan = run scan cs

abbrev from : Scan → List ℕ → Option TokenKind
from scan cs = run (Some scan) cs

run_text : (scan : Option TextScan) (cs : List ℕ) → run (option_map scans.Text scan) cs ≡ text_run scan cs
run_text None cs = refl
run_text (Some scan) [] = refl
run_text (Some scan) (c ∷ cs) = run_text (text_advance scan c) cs

run_tag : (scan : Option TagScan) (cs : List ℕ) → run (option_map scans.Tag scan) cs ≡ tag_run scan cs
run_tag None cs = refl
run_tag (Some scan) [] = refl
run_tag (Some scan) (c ∷ cs) = run_tag (tag_advance scan c) cs

run_name : (scan : Option NameScan) (cs : List ℕ) → run (option_map scans.Name scan) cs ≡ name_run scan cs
run_name None cs = refl
run_name (Some scan) [] = refl
run_name (Some scan) (c ∷ cs) = run_name (name_advance scan c) cs

run_number : (scan : Option NumberScan) (cs : List ℕ) → run (option_map scans.Number scan) cs ≡ number_run scan cs
run_number None cs = refl
run_number (Some scan) [] = refl
run_number (Some scan) (c ∷ cs) = run_number (number_advance scan c) cs

-- ---- the first character

begins_iriref : begin 60 ≡ Some (scans.Text (texts.Inside Brackets))
unfolding begin begin_mark is_base_character
begins_iriref = refl

begins_quotes : begin 34 ≡ Some (scans.Text (texts.Opened Quotes))
unfolding begin begin_mark is_base_character
begins_quotes = refl

begins_apostrophes : begin 39 ≡ Some (scans.Text (texts.Opened Apostrophes))
unfolding begin begin_mark is_base_character
begins_apostrophes = refl

begins_langtag : begin 64 ≡ Some (scans.Tag tags.At)
unfolding begin begin_mark is_base_character
begins_langtag = refl

begins_question : begin 63 ≡ Some (scans.Name (names.Mark true))
unfolding begin begin_mark is_base_character
begins_question = refl

begins_dollar : begin 36 ≡ Some (scans.Name (names.Mark false))
unfolding begin begin_mark is_base_character
begins_dollar = refl

begins_label : begin 95 ≡ Some (scans.Name names.Underscore)
unfolding begin begin_mark is_base_character
begins_label = refl

begins_colon : begin 58 ≡ Some (scans.Name names.Colon)
unfolding begin begin_mark is_base_character
begins_colon = refl

begins_plus : begin 43 ≡ Some (scans.Number (numbers.Sign true))
unfolding begin begin_mark is_base_character
begins_plus = refl

begins_minus : begin 45 ≡ Some (scans.Number (numbers.Sign false))
unfolding begin begin_mark is_base_character
begins_minus = refl

begins_dot : begin 46 ≡ Some (scans.Number (numbers.Dot true))
unfolding begin begin_mark is_base_character
begins_dot = refl

letter_is_base : (c : ℕ) → is_letter c ≡ true → is_base_character c ≡ true
unfolding is_base_character
letter_is_base c h = grind (arith, nat_tests)

digit_is_no_letter : (c : ℕ) → is_digit c ≡ true → is_letter c ≡ false
digit_is_no_letter c h = grind (arith, nat_tests)

digit_is_no_base : (c : ℕ) → is_digit c ≡ true → is_base_character c ≡ false
unfolding is_base_character
digit_is_no_base c h = grind (arith, nat_tests)

pub begins_word : (c : ℕ) → is_letter c ≡ true → begin c ≡ Some (scans.Name names.Word)
unfolding begin
begins_word c h = when_true (λ (x : Option Scan). x) (is_letter c) (Some (scans.Name names.Word))
    (cond (is_base_character c) (Some (scans.Name names.Prefix)) (cond (is_digit c) (Some (scans.Number numbers.Integer)) (begin_mark c))) h

begins_prefix : (c : ℕ) → is_letter c ≡ false → is_base_character c ≡ true → begin c ≡ Some (scans.Name names.Prefix)
unfolding begin
begins_prefix c h k = when_false (λ (x : Option Scan). x) (is_letter c) (Some (scans.Name names.Word))
    (cond (is_base_character c) (Some (scans.Name names.Prefix)) (cond (is_digit c) (Some (scans.Number numbers.Integer)) (begin_mark c))) h
    ∙ when_true (λ (x : Option Scan). x) (is_base_character c) (Some (scans.Name names.Prefix)) (cond (is_digit c) (Some (scans.Number numbers.Integer)) (begin_mark c)) k

begins_integer : (c : ℕ) → is_digit c ≡ true → begin c ≡ Some (scans.Number numbers.Integer)
unfolding begin
begins_integer c h = when_false (λ (x : Option Scan). x) (is_letter c) (Some (scans.Name names.Word))
    (cond (is_base_character c) (Some (scans.Name names.Prefix)) (cond (is_digit c) (Some (scans.Number numbers.Integer)) (begin_mark c))) (digit_is_no_letter c h)
    ∙ when_false (λ (x : Option Scan). x) (is_base_character c) (Some (scans.Name names.Prefix)) (cond (is_digit c) (Some (scans.Number numbers.Integer)) (begin_mark c)) (digit_is_no_base c h)
    ∙ when_true (λ (x : Option Scan). x) (is_digit c) (Some (scans.Number numbers.Integer)) (begin_mark c) h

-- ---- symbols

-- what holds of each known number holds of one that is known
any_of : (P : ℕ → Type 0) (xs : List ℕ) → AllByRecursion P xs → (c : ℕ) → list_any (λ known. known == c) xs ≡ true → P c
any_of P [] all c h = absurd cc
any_of P (x ∷ xs) all c h = by (x == c) refl h (λ k. any_of P xs all.1 c k)
  where
    by : (same : Bool) → (x == c) ≡ same → (same || list_any (λ known. known == c) xs) ≡ true → (list_any (λ known. known == c) xs ≡ true → P c) → P c
    by true e k again = subst P (eqb-true x c e) all.0
    by false e k again = again k

abbrev is_known : ℕ → Bool
is_known c = list_any (λ known. known == c) (codes "{}.;,*()[]/|^!+?%\\")

symbols_again : AllByRecursion (λ c. run (begin c) [] ≡ Some kinds.Symbol) (codes "{}.;,*()[]/|^!+?%\\")
unfolding begin begin_mark is_base_character is_lone_symbol
symbols_again = (refl, (refl, (refl, (refl, (refl, (refl, (refl, (refl, (refl, (refl, (refl, (refl, (refl, (refl, (refl, (refl, (refl, (refl, tt))))))))))))))))))

lone_are_known : AllByRecursion (λ c. is_known c ≡ true) (codes "{};,*()[]/|!%\\")
lone_are_known = (refl, (refl, (refl, (refl, (refl, (refl, (refl, (refl, (refl, (refl, (refl, (refl, (refl, (refl, tt))))))))))))))

lone_is_known : (c : ℕ) → is_lone_symbol c ≡ true → is_known c ≡ true
unfolding is_lone_symbol
lone_is_known c h = any_of (λ x. is_known x ≡ true) (codes "{};,*()[]/|!%\\") lone_are_known c h

symbol_takes : (cs : List ℕ) (kind : TokenKind) → run (Some scans.Symbol) cs ≡ Some kind → (kind ≡ kinds.Symbol) × (cs ≡ [])
symbol_takes [] kind h = (cc, refl)
symbol_takes (c ∷ cs) kind h = absurd cc

-- ---- what is accepted is a token

of_kind : (cs : List ℕ) {kind other : TokenKind} → kind ≡ other → IsOf other cs → IsOf kind cs
of_kind cs {kind} {other} e is = subst (λ (k : TokenKind). IsOf k cs) (sym e) is

-- a symbol of one character
lone : (c : ℕ) (cs : List ℕ) (kind : TokenKind) → is_known c ≡ true → kind ≡ kinds.Symbol → cs ≡ [] → IsOf kind (c ∷ cs)
lone c cs kind known k e = of_kind (c ∷ cs) k (inl (c, ap (λ (x : List ℕ). c ∷ x) e, known))

iriref_takes : (cs : List ℕ) (kind : TokenKind) → run (Some (scans.Text (texts.Inside Brackets))) cs ≡ Some kind → IsOf kind (60 ∷ cs)
iriref_takes cs kind h =
    let rest = text_takes Brackets cs kind (sym (run_text (Some (texts.Inside Brackets)) cs) ∙ h) in
    let r = rest.1 in
    of_kind (60 ∷ cs) rest.0 (
      flat_map text_of r.pieces,
      record { pieces = r.pieces; each = r.each; spelled = ap (λ (x : List ℕ). 60 ∷ x) r.spelled; means = refl },
    )

quotes_takes : (cs : List ℕ) (kind : TokenKind) → run (Some (scans.Text (texts.Opened Quotes))) cs ≡ Some kind → IsOf kind (34 ∷ cs)
quotes_takes cs kind h = by (opened_takes Quotes cs kind tt (sym (run_text (Some (texts.Opened Quotes)) cs) ∙ h))
  where
    by : ((kind ≡ kinds.Str) × IsTextRest Quotes cs) ⊎ IsLongRest Quotes kind cs → IsOf kind (34 ∷ cs)
    by (inl (k, r)) = of_kind (34 ∷ cs) k (
      flat_map text_of r.pieces,
      inl (record { pieces = r.pieces; each = r.each; spelled = ap (λ (x : List ℕ). 34 ∷ x) r.spelled; means = refl }),
    )
    by (inr (k, e)) = of_kind (34 ∷ cs) k (inl (ap (λ (x : List ℕ). 34 ∷ x) e))

apostrophes_takes : (cs : List ℕ) (kind : TokenKind) → run (Some (scans.Text (texts.Opened Apostrophes))) cs ≡ Some kind → IsOf kind (39 ∷ cs)
apostrophes_takes cs kind h = by (opened_takes Apostrophes cs kind tt (sym (run_text (Some (texts.Opened Apostrophes)) cs) ∙ h))
  where
    by : ((kind ≡ kinds.Str) × IsTextRest Apostrophes cs) ⊎ IsLongRest Apostrophes kind cs → IsOf kind (39 ∷ cs)
    by (inl (k, r)) = of_kind (39 ∷ cs) k (
      flat_map text_of r.pieces,
      inr (record { pieces = r.pieces; each = r.each; spelled = ap (λ (x : List ℕ). 39 ∷ x) r.spelled; means = refl }),
    )
    by (inr (k, e)) = of_kind (39 ∷ cs) k (inr (ap (λ (x : List ℕ). 39 ∷ x) e))

langtag_takes : (cs : List ℕ) (kind : TokenKind) → run (Some (scans.Tag tags.At)) cs ≡ Some kind → IsOf kind (64 ∷ cs)
langtag_takes cs kind h =
    let rest = at_takes cs kind (sym (run_tag (Some tags.At) cs) ∙ h) in
    of_kind (64 ∷ cs) rest.0 (map to_ascii_lowercase cs, record { written = cs; spelled = refl; lower = refl; tag_is = rest.1 })

variable_takes : (mark : ℕ) (question : Bool) (cs : List ℕ) (kind : TokenKind) → (mark == 63 || mark == 36) ≡ true → (question ≡ true → is_known mark ≡ true)
    → run (Some (scans.Name (names.Mark question))) cs ≡ Some kind → IsOf kind (mark ∷ cs)
variable_takes mark question cs kind is known h =
    elim (mark_takes question cs kind (sym (run_name (Some (names.Mark question)) cs) ∙ h)) [
      | inl (k, r) ↦ of_kind (mark ∷ cs) k (encode_utf8_all cs, record { mark = mark; letters = cs; spelled = refl; mark_is = is; letters_are = r; name_is = refl })
      | inr (q, k, e) ↦ lone mark cs kind (known q) k e
    ]

label_takes : (cs : List ℕ) (kind : TokenKind) → run (Some (scans.Name names.Underscore)) cs ≡ Some kind → IsOf kind (95 ∷ cs)
label_takes cs kind h =
    let rest = underscore_takes cs kind (sym (run_name (Some names.Underscore) cs) ∙ h) in
    let r = rest.1 in
    of_kind (95 ∷ cs) rest.0 (
      encode_utf8_all r.letters,
      record { letters = r.letters; spelled = ap (λ (x : List ℕ). 95 ∷ x) r.spelled; letters_are = r.are; label_is = refl },
    )

no_prefix_takes : (cs : List ℕ) (kind : TokenKind) → run (Some (scans.Name names.Colon)) cs ≡ Some kind → IsOf kind (58 ∷ cs)
no_prefix_takes cs kind h =
    let rest = colon_takes cs kind (sym (run_name (Some names.Colon) cs) ∙ h) in
    of_kind (58 ∷ cs) rest.0 (
      [],
      encode_utf8_all cs,
      record { before = []; behind = cs; spelled = refl; before_is = inl refl; behind_is = rest.1; prefix_is = refl; local_is = refl },
    )

prefixed : (c : ℕ) (cs : List ℕ) → is_base_character c ≡ true → IsPrefixRest false cs → IsOf kinds.PrefixName (c ∷ cs)
prefixed c cs h r = (
  c ∷ r.before,
  encode_utf8_all r.behind,
  record {
    before = c ∷ r.before;
    behind = r.behind;
    spelled = ap (λ (x : List ℕ). c ∷ x) r.spelled;
    before_is = inr (dotted_takes is_base_character continues_name c r.before h r.before_is);
    behind_is = r.behind_is;
    prefix_is = refl;
    local_is = refl;
  },
)

letter_takes : (c : ℕ) (cs : List ℕ) (kind : TokenKind) → is_letter c ≡ true → run (Some (scans.Name names.Word)) cs ≡ Some kind → IsOf kind (c ∷ cs)
letter_takes c cs kind is h =
    elim (word_takes cs kind (sym (run_name (Some names.Word) cs) ∙ h)) [
      | inl (k, each) ↦ of_kind (c ∷ cs) k (and_from (is_letter c) (list_all continues_word cs) is each)
      | inr (k, r) ↦ of_kind (c ∷ cs) k (prefixed c cs (letter_is_base c is) r)
    ]

base_takes : (c : ℕ) (cs : List ℕ) (kind : TokenKind) → is_base_character c ≡ true → run (Some (scans.Name names.Prefix)) cs ≡ Some kind → IsOf kind (c ∷ cs)
base_takes c cs kind is h =
    let rest = prefix_takes cs false kind (sym (run_name (Some names.Prefix) cs) ∙ h) in
    of_kind (c ∷ cs) rest.0 (prefixed c cs is rest.1)

digit_is_no_sign : (c : ℕ) → is_digit c ≡ true → is_sign c ≡ false
digit_is_no_sign c h = grind (arith, nat_tests)

digit_takes : (c : ℕ) (cs : List ℕ) (kind : TokenKind) → is_digit c ≡ true → run (Some (scans.Number numbers.Integer)) cs ≡ Some kind → IsOf kind (c ∷ cs)
digit_takes c cs kind is h =
    plain_number kind c cs (digit_is_no_sign c is) (integer_takes cs c kind is (sym (run_number (Some numbers.Integer) cs) ∙ h))

signed_takes : (c : ℕ) (plus : Bool) (cs : List ℕ) (kind : TokenKind) → is_sign c ≡ true → (plus ≡ true → is_known c ≡ true)
    → run (Some (scans.Number (numbers.Sign plus))) cs ≡ Some kind → IsOf kind (c ∷ cs)
signed_takes c plus cs kind is known h =
    elim (sign_takes plus cs kind (sym (run_number (Some (numbers.Sign plus)) cs) ∙ h)) [
      | inl (p, k, e) ↦ lone c cs kind (known p) k e
      | inr r ↦ signed_number kind c cs is r
    ]

point_takes : (cs : List ℕ) (kind : TokenKind) → run (Some (scans.Number (numbers.Dot true))) cs ≡ Some kind → IsOf kind (46 ∷ cs)
point_takes cs kind h =
    elim (dot_takes true cs kind (sym (run_number (Some (numbers.Dot true)) cs) ∙ h)) [
      | inl (p, k, e) ↦ lone 46 cs kind refl k e
      | inr r ↦ plain_number kind 46 cs refl r
    ]

caret_takes : (cs : List ℕ) (kind : TokenKind) → run (Some scans.Caret) cs ≡ Some kind → IsOf kind (94 ∷ cs)
caret_takes [] kind h = let k : kind ≡ kinds.Symbol = cc in lone 94 [] kind refl k refl
caret_takes (c ∷ cs) kind h =
    let step = only (on cs) (c == 94) scans.Symbol kind refl h in
    let rest = symbol_takes cs kind step.1 in
    of_kind (94 ∷ c ∷ cs) rest.0 (inr (ap (λ (x : ℕ). 94 ∷ x ∷ cs) (eqb-true c 94 step.0) ∙ ap (λ (x : List ℕ). 94 ∷ 94 ∷ x) rest.1))

-- a choice by one character
at : (n : ℕ) (c : ℕ) (cs : List ℕ) (kind : TokenKind) (scan : Scan) (other : Option Scan) → (run (Some scan) cs ≡ Some kind → IsOf kind (n ∷ cs))
    → (run other cs ≡ Some kind → IsOf kind (c ∷ cs)) → run (cond (c == n) (Some scan) other) cs ≡ Some kind → IsOf kind (c ∷ cs)
at n c cs kind scan other here there h =
    elim (split (on cs) (c == n) (Some scan) other (Some kind) h) [
      | inl (p, r) ↦ subst (λ (x : ℕ). IsOf kind (x ∷ cs)) (sym (eqb-true c n p)) (here r)
      | inr (p, r) ↦ there r
    ]

mark_begins : (c : ℕ) (cs : List ℕ) (kind : TokenKind) → run (begin_mark c) cs ≡ Some kind → IsOf kind (c ∷ cs)
unfolding begin_mark
mark_begins c cs kind h =
    at 60 c cs kind (scans.Text (texts.Inside Brackets)) _ (iriref_takes cs kind) (
    at 34 c cs kind (scans.Text (texts.Opened Quotes)) _ (quotes_takes cs kind) (
    at 39 c cs kind (scans.Text (texts.Opened Apostrophes)) _ (apostrophes_takes cs kind) (
    at 64 c cs kind (scans.Tag tags.At) _ (langtag_takes cs kind) (
    at 63 c cs kind (scans.Name (names.Mark true)) _ (variable_takes 63 true cs kind refl (λ e. refl)) (
    at 36 c cs kind (scans.Name (names.Mark false)) _ (variable_takes 36 false cs kind refl (λ e. absurd cc)) (
    at 95 c cs kind (scans.Name names.Underscore) _ (label_takes cs kind) (
    at 58 c cs kind (scans.Name names.Colon) _ (no_prefix_takes cs kind) (
    at 43 c cs kind (scans.Number (numbers.Sign true)) _ (signed_takes 43 true cs kind refl (λ e. refl)) (
    at 45 c cs kind (scans.Number (numbers.Sign false)) _ (signed_takes 45 false cs kind refl (λ e. absurd cc)) (
    at 46 c cs kind (scans.Number (numbers.Dot true)) _ (point_takes cs kind) (
    at 94 c cs kind scans.Caret _ (caret_takes cs kind) (λ r.
    let step = only (on cs) (is_lone_symbol c) scans.Symbol kind refl r in
    let rest = symbol_takes cs kind step.1 in
    lone c cs kind (lone_is_known c step.0) rest.0 rest.1)))))))))))) h

begin_takes : (c : ℕ) (cs : List ℕ) (kind : TokenKind) → run (begin c) cs ≡ Some kind → IsOf kind (c ∷ cs)
unfolding begin
begin_takes c cs kind h =
    elim (split (on cs) (is_letter c) (Some (scans.Name names.Word))
    (cond (is_base_character c) (Some (scans.Name names.Prefix)) (cond (is_digit c) (Some (scans.Number numbers.Integer)) (begin_mark c))) (Some kind) h) [
      | inl (p, r) ↦ letter_takes c cs kind p r
      | inr (p, r) ↦
          elim (split (on cs) (is_base_character c) (Some (scans.Name names.Prefix)) (cond (is_digit c) (Some (scans.Number numbers.Integer)) (begin_mark c)) (Some kind) r) [
            | inl (q, s) ↦ base_takes c cs kind q s
            | inr (q, s) ↦
                elim (split (on cs) (is_digit c) (Some (scans.Number numbers.Integer)) (begin_mark c) (Some kind) s) [
                  | inl (t, u) ↦ digit_takes c cs kind t u
                  | inr (t, u) ↦ mark_begins c cs kind u
                ]
          ]
    ]

pub token_takes : (cs : List ℕ) (kind : TokenKind) → run (Some scans.Start) cs ≡ Some kind → IsOf kind cs
token_takes [] kind h = absurd cc
token_takes (c ∷ cs) kind h = begin_takes c cs kind h

-- ---- a token is accepted

begin_again : (c : ℕ) (cs : List ℕ) (scan : Scan) (kind : TokenKind) → begin c ≡ Some scan → run (Some scan) cs ≡ Some kind → run (Some scans.Start) (c ∷ cs) ≡ Some kind
begin_again c cs scan kind e h = ap (on cs) e ∙ h

iriref_again : (cs iri : List ℕ) → IsIriref cs iri → run (Some scans.Start) cs ≡ Some kinds.Iriref
iriref_again cs iri r =
    let rest = flat_map source r.pieces ++ 62 ∷ [] in
    ap (from scans.Start) r.spelled
    ∙ begin_again 60 rest (scans.Text (texts.Inside Brackets)) kinds.Iriref begins_iriref (run_text (Some (texts.Inside Brackets)) rest ∙ text_again Brackets r.pieces r.each)

string_again : (cs form : List ℕ) → IsString cs form → run (Some scans.Start) cs ≡ Some kinds.Str
string_again cs form (inl r) =
    let rest = flat_map source r.pieces ++ 34 ∷ [] in
    ap (from scans.Start) r.spelled
    ∙ begin_again 34 rest (scans.Text (texts.Opened Quotes)) kinds.Str begins_quotes (run_text (Some (texts.Opened Quotes)) rest ∙ opened_again Quotes r.pieces tt r.each)
string_again cs form (inr r) =
    let rest = flat_map source r.pieces ++ 39 ∷ [] in
    ap (from scans.Start) r.spelled
    ∙ begin_again 39 rest (scans.Text (texts.Opened Apostrophes)) kinds.Str begins_apostrophes
    (run_text (Some (texts.Opened Apostrophes)) rest ∙ opened_again Apostrophes r.pieces tt r.each)

langtag_again : (cs tag : List ℕ) → IsLangtag cs tag → run (Some scans.Start) cs ≡ Some kinds.Langtag
langtag_again cs tag r =
    ap (from scans.Start) r.spelled
    ∙ begin_again 64 r.written (scans.Tag tags.At) kinds.Langtag begins_langtag
    (run_tag (Some tags.At) r.written ∙ at_again r.written (subst IsTag r.lower r.tag_is))

variable_again : (cs name : List ℕ) → IsVariable cs name → run (Some scans.Start) cs ≡ Some kinds.Var
variable_again cs name r = ap (from scans.Start) r.spelled ∙ by (or_cases (r.mark == 63) (r.mark == 36) r.mark_is)
  where
    by : ((r.mark == 63) ≡ true) ⊎ ((r.mark == 36) ≡ true) → run (Some scans.Start) (r.mark ∷ r.letters) ≡ Some kinds.Var
    by (inl e) = ap (λ (x : ℕ). run (Some scans.Start) (x ∷ r.letters)) (eqb-true r.mark 63 e)
        ∙ begin_again 63 r.letters (scans.Name (names.Mark true)) kinds.Var begins_question
        (run_name (Some (names.Mark true)) r.letters ∙ mark_again true r.letters r.letters_are)
    by (inr e) = ap (λ (x : ℕ). run (Some scans.Start) (x ∷ r.letters)) (eqb-true r.mark 36 e)
        ∙ begin_again 36 r.letters (scans.Name (names.Mark false)) kinds.Var begins_dollar
        (run_name (Some (names.Mark false)) r.letters ∙ mark_again false r.letters r.letters_are)

label_again : (cs label : List ℕ) → IsLabel cs label → run (Some scans.Start) cs ≡ Some kinds.Label
label_again cs label r =
    ap (from scans.Start) r.spelled
    ∙ begin_again 95 (58 ∷ r.letters) (scans.Name names.Underscore) kinds.Label begins_label
    (run_name (Some names.Underscore) (58 ∷ r.letters) ∙ underscore_again r.letters r.letters_are)

prefix_name_again : (before behind : List ℕ) → IsPrefix before → IsLocal behind → run (Some scans.Start) (before ++ 58 ∷ behind) ≡ Some kinds.PrefixName
prefix_name_again [] behind h local =
    begin_again 58 behind (scans.Name names.Colon) kinds.PrefixName begins_colon (run_name (Some names.Colon) behind ∙ colon_again behind local)
prefix_name_again (c ∷ before) behind (inl none) local = absurd cc
prefix_name_again (c ∷ before) behind (inr h) local = by (is_letter c) refl (dotted_again is_base_character continues_name c before h)
  where
    by : (letter : Bool) → is_letter c ≡ letter → (is_base_character c ≡ true) × (dotted continues_name false before ≡ true)
        → run (Some scans.Start) (c ∷ (before ++ 58 ∷ behind)) ≡ Some kinds.PrefixName
    by true e p = begin_again c (before ++ 58 ∷ behind) (scans.Name names.Word) kinds.PrefixName (begins_word c e)
        (run_name (Some names.Word) (before ++ 58 ∷ behind) ∙ word_prefix_again before behind p.1 local)
    by false e p = begin_again c (before ++ 58 ∷ behind) (scans.Name names.Prefix) kinds.PrefixName (begins_prefix c e p.0)
        (run_name (Some names.Prefix) (before ++ 58 ∷ behind) ∙ prefix_again before behind false p.1 local)

unsigned_again : (kind : TokenKind) (cs : List ℕ) → Begins kind cs → run (Some scans.Start) cs ≡ Some kind
unsigned_again kind _ (with_digit_first c cs h r) =
    begin_again c cs (scans.Number numbers.Integer) kind (begins_integer c h) (run_number (Some numbers.Integer) cs ∙ r)
unsigned_again kind _ (with_dot_first cs r) =
    begin_again 46 cs (scans.Number (numbers.Dot true)) kind begins_dot (run_number (Some (numbers.Dot true)) cs ∙ r true)

signed_again : (kind : TokenKind) (c : ℕ) (cs : List ℕ) → is_sign c ≡ true → Begins kind cs → run (Some scans.Start) (c ∷ cs) ≡ Some kind
signed_again kind c cs h r = by (or_cases (c == 43) (c == 45) h)
  where
    by : ((c == 43) ≡ true) ⊎ ((c == 45) ≡ true) → run (Some scans.Start) (c ∷ cs) ≡ Some kind
    by (inl e) = ap (λ (x : ℕ). run (Some scans.Start) (x ∷ cs)) (eqb-true c 43 e)
        ∙ begin_again 43 cs (scans.Number (numbers.Sign true)) kind begins_plus (run_number (Some (numbers.Sign true)) cs ∙ sign_run r true)
    by (inr e) = ap (λ (x : ℕ). run (Some scans.Start) (x ∷ cs)) (eqb-true c 45 e)
        ∙ begin_again 45 cs (scans.Number (numbers.Sign false)) kind begins_minus (run_number (Some (numbers.Sign false)) cs ∙ sign_run r false)

numeral_again : (kind : TokenKind) (cs : List ℕ) → IsNumeral kind cs → run (Some scans.Start) cs ≡ Some kind
numeral_again kind [] n = absurd (n.some refl)
numeral_again kind (c ∷ cs) n = by (is_sign c) refl n.is
  where
    by : (signed : Bool) → is_sign c ≡ signed → IsUnsigned kind (cond signed cs (c ∷ cs)) → run (Some scans.Start) (c ∷ cs) ≡ Some kind
    by true e u = signed_again kind c cs e (unsigned_begins u)
    by false e u = unsigned_again kind (c ∷ cs) (unsigned_begins u)

long_string_again : (cs : List ℕ) → IsLong cs → run (Some scans.Start) cs ≡ Some kinds.Long
long_string_again cs (inl e) =
    ap (from scans.Start) e
    ∙ begin_again 34 (34 ∷ 34 ∷ []) (scans.Text (texts.Opened Quotes)) kinds.Long begins_quotes (run_text (Some (texts.Opened Quotes)) (34 ∷ 34 ∷ []) ∙ long_again Quotes)
long_string_again cs (inr e) =
    ap (from scans.Start) e
    ∙ begin_again 39 (39 ∷ 39 ∷ []) (scans.Text (texts.Opened Apostrophes)) kinds.Long begins_apostrophes
    (run_text (Some (texts.Opened Apostrophes)) (39 ∷ 39 ∷ []) ∙ long_again Apostrophes)

word_token_again : (cs : List ℕ) → is_name is_letter continues_word cs ≡ true → run (Some scans.Start) cs ≡ Some kinds.Word
word_token_again [] h = absurd cc
word_token_again (c ∷ cs) h =
    let parts = and_parts (is_letter c) (list_all continues_word cs) h in
    begin_again c cs (scans.Name names.Word) kinds.Word (begins_word c parts.0) (run_name (Some names.Word) cs ∙ word_again cs parts.1)

two_carets : run (Some scans.Start) (codes "^^") ≡ Some kinds.Symbol
unfolding begin begin_mark is_base_character
two_carets = refl

symbol_again : (cs : List ℕ) → IsSymbolToken cs → run (Some scans.Start) cs ≡ Some kinds.Symbol
symbol_again cs (inl (c, e, known)) =
    ap (from scans.Start) e ∙ any_of (λ x. run (begin x) [] ≡ Some kinds.Symbol) (codes "{}.;,*()[]/|^!+?%\\") symbols_again c known
symbol_again cs (inr e) = ap (from scans.Start) e ∙ two_carets

pub token_again : (cs : List ℕ) (kind : TokenKind) → IsOf kind cs → run (Some scans.Start) cs ≡ Some kind
token_again cs kinds.Iriref h = iriref_again cs h.0 h.1
token_again cs kinds.Str h = string_again cs h.0 h.1
token_again cs kinds.Langtag h = langtag_again cs h.0 h.1
token_again cs kinds.Var h = variable_again cs h.0 h.1
token_again cs kinds.Label h = label_again cs h.0 h.1
token_again cs kinds.PrefixName h =
    ap (from scans.Start) h.2.spelled ∙ prefix_name_again h.2.before h.2.behind h.2.before_is h.2.behind_is
token_again cs kinds.Integer h = numeral_again kinds.Integer cs (numeral_of kinds.Integer cs h (inl refl))
token_again cs kinds.Decimal h = numeral_again kinds.Decimal cs (numeral_of kinds.Decimal cs h (inr (inl refl)))
token_again cs kinds.Double h = numeral_again kinds.Double cs (numeral_of kinds.Double cs h (inr (inr refl)))
token_again cs kinds.Long h = long_string_again cs h
token_again cs kinds.Word h = word_token_again cs h
token_again cs kinds.Symbol h = symbol_again cs h
