-- IRIREFs and strings, character by character.
use Rattle.std.proofs.lemmas.Bool.Decides.{nat_tests}
use Rattle.std.proofs.Common.{◌≡◌, ℕ, zero, suc, ◌+◌, ◌-◌, ◌*◌, ◌<◌, ◌≤◌, arith, true, false, cond, ◌&&◌, ◌==◌, ◌⊎◌, List, [], ◌∷◌, ◌++◌, Option, Some, None, refl, sym, ap, subst, ◌∙◌, inl, inr, append_assoc}
use Rattle.std.specs.Prelude.{nat_le, nat_lt, IsTrue}
use Rattle.std.specs.Char.{digit_value, is_ascii_hexdigit}
use Rattle.std.specs.List.{flat_map, AllByRecursion}
use Rattle.std.proofs.lemmas.Bool.{and_parts, and_from, eqb-true, le-leb, lt-ltb}
use Rattle.term_core.specs.Characters.{is_iri_character}
use Rattle.nt_text.specs.declared.pieces.Between.TheVariants as between
use Rattle.nt_text.specs.Escapes.{Piece, Itself, Echar, Uchar4, Uchar8, source, is_plain, is_named, is_letter_of_escape, is_character, are_four_digits, number_of_four, number_of_eight}
use Rattle.query_text.specs.declared.kind.TokenKind.{TokenKind}
use Rattle.query_text.specs.declared.kind.TokenKind.TheVariants as kinds
use Rattle.query_text.specs.declared.text_scan.Enclosure.{Enclosure}
use Rattle.query_text.specs.declared.text_scan.Enclosure.TheVariants.{Brackets, Quotes, Apostrophes}
use Rattle.query_text.specs.declared.text_scan.TextScan.{TextScan}
use Rattle.query_text.specs.declared.text_scan.TextScan.TheVariants as texts
use Rattle.query_text.specs.Scanning.{closing, kind_of, allowed, is_plain_in, is_letter_in, is_named_in, inside, escaped, digits, digit_read, text_advance, text_accepted}
use Rattle.query_text.proofs.Choices.{split, only, when_true, when_false, other_than}

abbrev pub text_run : Option TextScan → List ℕ → Option TokenKind
text_run None cs = None
text_run (Some scan) [] = text_accepted scan
text_run (Some scan) (c ∷ cs) = text_run (text_advance scan c) cs

abbrev on : List ℕ → Option TextScan → Option TokenKind
on cs scan = text_run scan cs

-- ---- what completes a text

pub record IsTextRest (enclosure : Enclosure) (cs : List ℕ) : Type 0 where
  pub pieces : List Piece
  pub each : AllByRecursion (λ piece. IsTrue (allowed enclosure piece)) pieces
  pub spelled : cs ≡ flat_map source pieces ++ closing enclosure ∷ []

-- so many digits, which go on with this value, and then the rest of the text
abbrev IsDigitsRest : Enclosure → ℕ → ℕ → List ℕ → Type 0
IsDigitsRest enclosure zero value cs = IsTrue (is_named_in enclosure value) × IsTextRest enclosure cs
IsDigitsRest enclosure (suc n) value [] = ⊥
IsDigitsRest enclosure (suc n) value (c ∷ cs) = IsTrue (is_ascii_hexdigit c) × IsDigitsRest enclosure n (value * 16 + digit_value c) cs

piece_onto : (enclosure : Enclosure) (piece : Piece) (cs rest : List ℕ) → allowed enclosure piece ≡ true → rest ≡ source piece ++ cs → IsTextRest enclosure cs
    → IsTextRest enclosure rest
piece_onto enclosure piece cs rest h e r = record {
  pieces = piece ∷ r.pieces;
  each = (h, r.each);
  spelled = e ∙ ap (λ (x : List ℕ). source piece ++ x) r.spelled ∙ sym (append_assoc (source piece) (flat_map source r.pieces) (closing enclosure ∷ []));
}

pub allowed_four : (enclosure : Enclosure) (a b c d : ℕ)
    → allowed enclosure (Uchar4 a b c d) ≡ (are_four_digits a b c d && is_named_in enclosure (number_of_four a b c d))
unfolding is_named_in
allowed_four Brackets a b c d = refl
allowed_four Quotes a b c d = refl
allowed_four Apostrophes a b c d = refl

pub allowed_eight : (enclosure : Enclosure) (a b c d e f g h : ℕ)
    → allowed enclosure (Uchar8 a b c d e f g h)
    ≡ ((are_four_digits a b c d && are_four_digits e f g h) && is_named_in enclosure (number_of_eight a b c d e f g h))
unfolding is_named_in
allowed_eight Brackets a b c d e f g h = refl
allowed_eight Quotes a b c d e f g h = refl
allowed_eight Apostrophes a b c d e f g h = refl

four : (a b c d : ℕ) → is_ascii_hexdigit a ≡ true → is_ascii_hexdigit b ≡ true → is_ascii_hexdigit c ≡ true → is_ascii_hexdigit d ≡ true
    → are_four_digits a b c d ≡ true
four a b c d p q r s =
    and_from (is_ascii_hexdigit a && is_ascii_hexdigit b && is_ascii_hexdigit c) (is_ascii_hexdigit d)
    (and_from (is_ascii_hexdigit a && is_ascii_hexdigit b) (is_ascii_hexdigit c) (and_from (is_ascii_hexdigit a) (is_ascii_hexdigit b) p q) r) s

abbrev pub onto : ℕ → ℕ → ℕ
onto value c = value * 16 + digit_value c

pub four_value : (a b c d : ℕ) → onto (onto (onto (onto 0 a) b) c) d ≡ number_of_four a b c d
four_value a b c d = omega arith

pub eight_value : (a b c d e f g h : ℕ) → onto (onto (onto (onto (onto (onto (onto (onto 0 a) b) c) d) e) f) g) h ≡ number_of_eight a b c d e f g h
eight_value a b c d e f g h = omega arith

uchar4_takes : (enclosure : Enclosure) (cs : List ℕ) → IsDigitsRest enclosure 4 0 cs → IsTextRest enclosure (92 ∷ 117 ∷ cs)
uchar4_takes enclosure [] r = absurd r
uchar4_takes enclosure (a ∷ []) r = absurd r.1
uchar4_takes enclosure (a ∷ b ∷ []) r = absurd r.1.1
uchar4_takes enclosure (a ∷ b ∷ c ∷ []) r = absurd r.1.1.1
uchar4_takes enclosure (a ∷ b ∷ c ∷ d ∷ cs) (p, (q, (r, (s, (is, rest))))) =
    piece_onto enclosure (Uchar4 a b c d) cs (92 ∷ 117 ∷ a ∷ b ∷ c ∷ d ∷ cs)
    (allowed_four enclosure a b c d ∙ and_from (are_four_digits a b c d) (is_named_in enclosure (number_of_four a b c d)) (four a b c d p q r s)
    (subst (λ (x : ℕ). is_named_in enclosure x ≡ true) (four_value a b c d) is))
    refl rest

uchar8_takes : (enclosure : Enclosure) (cs : List ℕ) → IsDigitsRest enclosure 8 0 cs → IsTextRest enclosure (92 ∷ 85 ∷ cs)
uchar8_takes enclosure [] r = absurd r
uchar8_takes enclosure (a ∷ []) r = absurd r.1
uchar8_takes enclosure (a ∷ b ∷ []) r = absurd r.1.1
uchar8_takes enclosure (a ∷ b ∷ c ∷ []) r = absurd r.1.1.1
uchar8_takes enclosure (a ∷ b ∷ c ∷ d ∷ []) r = absurd r.1.1.1.1
uchar8_takes enclosure (a ∷ b ∷ c ∷ d ∷ e ∷ []) r = absurd r.1.1.1.1.1
uchar8_takes enclosure (a ∷ b ∷ c ∷ d ∷ e ∷ f ∷ []) r = absurd r.1.1.1.1.1.1
uchar8_takes enclosure (a ∷ b ∷ c ∷ d ∷ e ∷ f ∷ g ∷ []) r = absurd r.1.1.1.1.1.1.1
uchar8_takes enclosure (a ∷ b ∷ c ∷ d ∷ e ∷ f ∷ g ∷ h ∷ cs) (p, (q, (r, (s, (t, (u, (v, (w, (is, rest))))))))) =
    piece_onto enclosure (Uchar8 a b c d e f g h) cs (92 ∷ 85 ∷ a ∷ b ∷ c ∷ d ∷ e ∷ f ∷ g ∷ h ∷ cs)
    (allowed_eight enclosure a b c d e f g h
    ∙ and_from (are_four_digits a b c d && are_four_digits e f g h) (is_named_in enclosure (number_of_eight a b c d e f g h))
    (and_from (are_four_digits a b c d) (are_four_digits e f g h) (four a b c d p q r s) (four e f g h t u v w))
    (subst (λ (x : ℕ). is_named_in enclosure x ≡ true) (eight_value a b c d e f g h) is))
    refl rest

-- ---- what is read is a text

closed_takes : (enclosure : Enclosure) (cs : List ℕ) (kind : TokenKind) → text_run (Some (texts.Closed enclosure)) cs ≡ Some kind → (kind ≡ kind_of enclosure) × (cs ≡ [])
closed_takes enclosure [] kind h = (cc, refl)
closed_takes enclosure (c ∷ cs) kind h = absurd cc

-- from each state inside a text
record IsTaken (enclosure : Enclosure) (cs : List ℕ) : Type 0 where
  inner : (kind : TokenKind) → text_run (Some (texts.Inside enclosure)) cs ≡ Some kind → (kind ≡ kind_of enclosure) × IsTextRest enclosure cs
  escape : (kind : TokenKind) → text_run (Some (texts.Escape enclosure)) cs ≡ Some kind → (kind ≡ kind_of enclosure) × IsTextRest enclosure (92 ∷ cs)
  numbers : (n value : ℕ) (kind : TokenKind) → text_run (Some (texts.Digits enclosure (suc n) value)) cs ≡ Some kind
      → (kind ≡ kind_of enclosure) × IsDigitsRest enclosure (suc n) value cs

plain_allowed : (enclosure : Enclosure) (c : ℕ) → is_plain_in enclosure c ≡ true → allowed enclosure (Itself c) ≡ true
unfolding is_plain_in
plain_allowed enclosure c h = h

inside_takes : (enclosure : Enclosure) (c : ℕ) (cs : List ℕ) (kind : TokenKind) → IsTaken enclosure cs → text_run (inside enclosure c) cs ≡ Some kind
    → (kind ≡ kind_of enclosure) × IsTextRest enclosure (c ∷ cs)
inside_takes enclosure c cs kind again h =
    elim (split (on cs) (c == closing enclosure) (Some (texts.Closed enclosure))
    (cond (c == 92) (Some (texts.Escape enclosure)) (cond (is_plain_in enclosure c) (Some (texts.Inside enclosure)) None)) (Some kind) h) [
      | inl (p, r) ↦
          let rest = closed_takes enclosure cs kind r in
          let is : c ∷ cs ≡ closing enclosure ∷ [] = ap (λ (x : ℕ). x ∷ cs) (eqb-true c (closing enclosure) p) ∙ ap (λ (x : List ℕ). closing enclosure ∷ x) rest.1 in
          (rest.0, record { pieces = []; each = tt; spelled = is })
      | inr (p, r) ↦
          elim (split (on cs) (c == 92) (Some (texts.Escape enclosure)) (cond (is_plain_in enclosure c) (Some (texts.Inside enclosure)) None) (Some kind) r) [
            | inl (q, s) ↦
                let rest = again.escape kind s in
                (rest.0, subst (λ (x : ℕ). IsTextRest enclosure (x ∷ cs)) (sym (eqb-true c 92 q)) rest.1)
            | inr (q, s) ↦
                let step = only (on cs) (is_plain_in enclosure c) (texts.Inside enclosure) kind refl s in
                let rest = again.inner kind step.1 in
                (rest.0, piece_onto enclosure (Itself c) cs (c ∷ cs) (plain_allowed enclosure c step.0) refl rest.1)
          ]
    ]

escaped_takes : (enclosure : Enclosure) (c : ℕ) (cs : List ℕ) (kind : TokenKind) → IsTaken enclosure cs → text_run (escaped enclosure c) cs ≡ Some kind
    → (kind ≡ kind_of enclosure) × IsTextRest enclosure (92 ∷ c ∷ cs)
escaped_takes enclosure c cs kind again h =
    elim (split (on cs) (c == 117) (Some (texts.Digits enclosure 4 0))
    (cond (c == 85) (Some (texts.Digits enclosure 8 0)) (cond (is_letter_in enclosure c) (Some (texts.Inside enclosure)) None)) (Some kind) h) [
      | inl (p, r) ↦
          let rest = again.numbers 3 0 kind r in
          (rest.0, subst (λ (x : ℕ). IsTextRest enclosure (92 ∷ x ∷ cs)) (sym (eqb-true c 117 p)) (uchar4_takes enclosure cs rest.1))
      | inr (p, r) ↦
          elim (split (on cs) (c == 85) (Some (texts.Digits enclosure 8 0)) (cond (is_letter_in enclosure c) (Some (texts.Inside enclosure)) None) (Some kind) r) [
            | inl (q, s) ↦
                let rest = again.numbers 7 0 kind s in
                (rest.0, subst (λ (x : ℕ). IsTextRest enclosure (92 ∷ x ∷ cs)) (sym (eqb-true c 85 q)) (uchar8_takes enclosure cs rest.1))
            | inr (q, s) ↦
                let step = only (on cs) (is_letter_in enclosure c) (texts.Inside enclosure) kind refl s in
                let rest = again.inner kind step.1 in
                (rest.0, piece_onto enclosure (Echar c) cs (92 ∷ c ∷ cs) step.0 refl rest.1)
          ]
    ]

last_digit : (enclosure : Enclosure) (value : ℕ) → digit_read enclosure 1 value ≡ cond (is_named_in enclosure value) (Some (texts.Inside enclosure)) None
last_digit enclosure value = refl

pub other_digit : (enclosure : Enclosure) (n value : ℕ) → digit_read enclosure (suc (suc n)) value ≡ Some (texts.Digits enclosure (suc n) value)
other_digit enclosure n value =
    let more : 1 < suc (suc n) = omega arith in
    let less : suc (suc n) - 1 ≡ suc n = omega arith in
    when_true (λ (x : Option TextScan). x) (nat_lt 1 (suc (suc n))) (Some (texts.Digits enclosure (suc (suc n) - 1) value))
    (cond (is_named_in enclosure value) (Some (texts.Inside enclosure)) None) (lt-ltb 1 (suc (suc n)) more)
    ∙ ap (λ (x : ℕ). Some (texts.Digits enclosure x value)) less

digits_takes : (enclosure : Enclosure) (n value : ℕ) (c : ℕ) (cs : List ℕ) (kind : TokenKind) → IsTaken enclosure cs
    → text_run (digits enclosure (suc n) value c) cs ≡ Some kind → (kind ≡ kind_of enclosure) × IsDigitsRest enclosure (suc n) value (c ∷ cs)
digits_takes enclosure n value c cs kind again h =
    elim (split (on cs) (nat_le value 0x10FFFF && is_ascii_hexdigit c) (digit_read enclosure (suc n) (onto value c)) None (Some kind) h) [
      | inl (p, r) ↦
          let rest = by n r in
          (rest.0, ((and_parts (nat_le value 0x10FFFF) (is_ascii_hexdigit c) p).1, rest.1))
      | inr (p, r) ↦ absurd cc
    ]
  where
    by : (m : ℕ) → text_run (digit_read enclosure (suc m) (onto value c)) cs ≡ Some kind → (kind ≡ kind_of enclosure) × IsDigitsRest enclosure m (onto value c) cs
    by zero r =
        let step = only (on cs) (is_named_in enclosure (onto value c)) (texts.Inside enclosure) kind refl r in
        let rest = again.inner kind step.1 in
        (rest.0, (step.0, rest.1))
    by (suc m) r = again.numbers m (onto value c) kind (ap (on cs) (sym (other_digit enclosure m (onto value c))) ∙ r)

taken : (enclosure : Enclosure) (cs : List ℕ) → IsTaken enclosure cs
taken enclosure [] = record { inner = λ kind h. absurd cc; escape = λ kind h. absurd cc; numbers = λ n value kind h. absurd cc }
taken enclosure (c ∷ cs) =
    let again = taken enclosure cs in record {
      inner = λ kind h. inside_takes enclosure c cs kind again h;
      escape = λ kind h. escaped_takes enclosure c cs kind again h;
      numbers = λ n value kind h. digits_takes enclosure n value c cs kind again h;
    }

pub text_takes : (enclosure : Enclosure) (cs : List ℕ) (kind : TokenKind) → text_run (Some (texts.Inside enclosure)) cs ≡ Some kind
    → (kind ≡ kind_of enclosure) × IsTextRest enclosure cs
text_takes enclosure cs kind h = (taken enclosure cs).inner kind h

-- ---- a text is read

-- a character that stands as itself neither ends the text nor begins an escape
pub plain_apart : (enclosure : Enclosure) (c : ℕ) → allowed enclosure (Itself c) ≡ true → ((c == closing enclosure) ≡ false) × ((c == 92) ≡ false) × (is_plain_in enclosure c ≡ true)
unfolding is_plain_in is_plain is_iri_character
plain_apart Brackets c h = (other_than is_iri_character 62 c refl h, other_than is_iri_character 92 c refl h, h)
plain_apart Quotes c h = (other_than (is_plain between.Quotes) 34 c refl h, other_than (is_plain between.Quotes) 92 c refl h, h)
plain_apart Apostrophes c h = (other_than (is_plain_in Apostrophes) 39 c refl h, other_than (is_plain_in Apostrophes) 92 c refl h, h)

pub letter_apart : (enclosure : Enclosure) (c : ℕ) → is_letter_in enclosure c ≡ true → ((c == 117) ≡ false) × ((c == 85) ≡ false)
unfolding is_letter_of_escape
letter_apart Brackets c h = absurd cc
letter_apart Quotes c h = (other_than (is_letter_in Quotes) 117 c refl h, other_than (is_letter_in Quotes) 85 c refl h)
letter_apart Apostrophes c h = (other_than (is_letter_in Apostrophes) 117 c refl h, other_than (is_letter_in Apostrophes) 85 c refl h)

character_small : (c : ℕ) → is_character c ≡ true → c ≤ 0x10FFFF
character_small c h = grind (arith, nat_tests)

pub named_small : (enclosure : Enclosure) (c : ℕ) → is_named_in enclosure c ≡ true → c ≤ 0x10FFFF
unfolding is_named_in is_named
named_small Brackets c h = character_small c (and_parts (is_character c) (is_iri_character c) h).0
named_small Quotes c h = character_small c h
named_small Apostrophes c h = character_small c h

abbrev pub Inner : Enclosure → List ℕ → Type 0
Inner enclosure cs = text_run (Some (texts.Inside enclosure)) cs ≡ Some (kind_of enclosure)

-- one digit of more than one, and the last
digit_again : (enclosure : Enclosure) (n value c : ℕ) (cs : List ℕ) → is_ascii_hexdigit c ≡ true → value ≤ 0x10FFFF
    → text_run (Some (texts.Digits enclosure (suc n) (onto value c))) cs ≡ Some (kind_of enclosure)
    → text_run (Some (texts.Digits enclosure (suc (suc n)) value)) (c ∷ cs) ≡ Some (kind_of enclosure)
digit_again enclosure n value c cs h small again =
    when_true (on cs) (nat_le value 0x10FFFF && is_ascii_hexdigit c) (digit_read enclosure (suc (suc n)) (onto value c)) None
    (and_from (nat_le value 0x10FFFF) (is_ascii_hexdigit c) (le-leb value 0x10FFFF small) h)
    ∙ ap (on cs) (other_digit enclosure n (onto value c)) ∙ again

last_again : (enclosure : Enclosure) (value c : ℕ) (cs : List ℕ) → is_ascii_hexdigit c ≡ true → value ≤ 0x10FFFF → is_named_in enclosure (onto value c) ≡ true
    → Inner enclosure cs → text_run (Some (texts.Digits enclosure 1 value)) (c ∷ cs) ≡ Some (kind_of enclosure)
last_again enclosure value c cs h small named again =
    when_true (on cs) (nat_le value 0x10FFFF && is_ascii_hexdigit c) (digit_read enclosure 1 (onto value c)) None
    (and_from (nat_le value 0x10FFFF) (is_ascii_hexdigit c) (le-leb value 0x10FFFF small) h)
    ∙ when_true (on cs) (is_named_in enclosure (onto value c)) (Some (texts.Inside enclosure)) None named ∙ again

pub four_again : (a b c d : ℕ) → are_four_digits a b c d ≡ true
    → (is_ascii_hexdigit a ≡ true) × (is_ascii_hexdigit b ≡ true) × (is_ascii_hexdigit c ≡ true) × (is_ascii_hexdigit d ≡ true)
four_again a b c d h =
    let p = and_parts (is_ascii_hexdigit a && is_ascii_hexdigit b && is_ascii_hexdigit c) (is_ascii_hexdigit d) h in
    let q = and_parts (is_ascii_hexdigit a && is_ascii_hexdigit b) (is_ascii_hexdigit c) p.0 in
    let r = and_parts (is_ascii_hexdigit a) (is_ascii_hexdigit b) q.0 in
    (r.0, r.1, q.1, p.1)

uchar4_again : (enclosure : Enclosure) (a b c d : ℕ) (cs : List ℕ) → allowed enclosure (Uchar4 a b c d) ≡ true → Inner enclosure cs
    → text_run (Some (texts.Digits enclosure 4 0)) (a ∷ b ∷ c ∷ d ∷ cs) ≡ Some (kind_of enclosure)
uchar4_again enclosure a b c d cs h again =
    let parts = and_parts (are_four_digits a b c d) (is_named_in enclosure (number_of_four a b c d)) (sym (allowed_four enclosure a b c d) ∙ h) in
    let each = four_again a b c d parts.0 in
    let named : is_named_in enclosure (onto (onto (onto (onto 0 a) b) c) d) ≡ true = ap (is_named_in enclosure) (four_value a b c d) ∙ parts.1 in
    let small : onto (onto (onto (onto 0 a) b) c) d ≤ 0x10FFFF = named_small enclosure (onto (onto (onto (onto 0 a) b) c) d) named in
    digit_again enclosure 2 0 a (b ∷ c ∷ d ∷ cs) each.0 (omega arith)
    (digit_again enclosure 1 (onto 0 a) b (c ∷ d ∷ cs) each.1 (omega arith)
    (digit_again enclosure 0 (onto (onto 0 a) b) c (d ∷ cs) each.2 (omega arith)
    (last_again enclosure (onto (onto (onto 0 a) b) c) d cs each.3 (omega arith) named again)))

uchar8_again : (enclosure : Enclosure) (a b c d e f g h : ℕ) (cs : List ℕ) → allowed enclosure (Uchar8 a b c d e f g h) ≡ true → Inner enclosure cs
    → text_run (Some (texts.Digits enclosure 8 0)) (a ∷ b ∷ c ∷ d ∷ e ∷ f ∷ g ∷ h ∷ cs) ≡ Some (kind_of enclosure)
uchar8_again enclosure a b c d e f g h cs is again =
    let parts = and_parts (are_four_digits a b c d && are_four_digits e f g h) (is_named_in enclosure (number_of_eight a b c d e f g h))
    (sym (allowed_eight enclosure a b c d e f g h) ∙ is) in
    let both = and_parts (are_four_digits a b c d) (are_four_digits e f g h) parts.0 in
    let high = four_again a b c d both.0 in
    let low = four_again e f g h both.1 in
    let value = onto (onto (onto (onto 0 a) b) c) d in
    let named : is_named_in enclosure (onto (onto (onto (onto value e) f) g) h) ≡ true = ap (is_named_in enclosure) (eight_value a b c d e f g h) ∙ parts.1 in
    let small : onto (onto (onto (onto value e) f) g) h ≤ 0x10FFFF = named_small enclosure (onto (onto (onto (onto value e) f) g) h) named in
    digit_again enclosure 6 0 a (b ∷ c ∷ d ∷ e ∷ f ∷ g ∷ h ∷ cs) high.0 (omega arith)
    (digit_again enclosure 5 (onto 0 a) b (c ∷ d ∷ e ∷ f ∷ g ∷ h ∷ cs) high.1 (omega arith)
    (digit_again enclosure 4 (onto (onto 0 a) b) c (d ∷ e ∷ f ∷ g ∷ h ∷ cs) high.2 (omega arith)
    (digit_again enclosure 3 (onto (onto (onto 0 a) b) c) d (e ∷ f ∷ g ∷ h ∷ cs) high.3 (omega arith)
    (digit_again enclosure 2 value e (f ∷ g ∷ h ∷ cs) low.0 (omega arith)
    (digit_again enclosure 1 (onto value e) f (g ∷ h ∷ cs) low.1 (omega arith)
    (digit_again enclosure 0 (onto (onto value e) f) g (h ∷ cs) low.2 (omega arith)
    (last_again enclosure (onto (onto (onto value e) f) g) h cs low.3 (omega arith) named again)))))))

-- the backslash
backslash : (enclosure : Enclosure) (cs : List ℕ) → text_run (Some (texts.Escape enclosure)) cs ≡ text_run (Some (texts.Inside enclosure)) (92 ∷ cs)
backslash Brackets cs = refl
backslash Quotes cs = refl
backslash Apostrophes cs = refl

abbrev pub rest_of : Enclosure → List Piece → List ℕ
rest_of enclosure pieces = flat_map source pieces ++ closing enclosure ∷ []

closes : (enclosure : Enclosure) → Inner enclosure (closing enclosure ∷ [])
closes Brackets = refl
closes Quotes = refl
closes Apostrophes = refl

pub text_again : (enclosure : Enclosure) (pieces : List Piece) → AllByRecursion (λ piece. IsTrue (allowed enclosure piece)) pieces → Inner enclosure (rest_of enclosure pieces)
text_again enclosure [] each = closes enclosure
text_again enclosure (Itself c ∷ pieces) each =
    let apart = plain_apart enclosure c each.0 in
    let rest = rest_of enclosure pieces in
    when_false (on rest) (c == closing enclosure) (Some (texts.Closed enclosure))
    (cond (c == 92) (Some (texts.Escape enclosure)) (cond (is_plain_in enclosure c) (Some (texts.Inside enclosure)) None)) apart.0
    ∙ when_false (on rest) (c == 92) (Some (texts.Escape enclosure)) (cond (is_plain_in enclosure c) (Some (texts.Inside enclosure)) None) apart.1
    ∙ when_true (on rest) (is_plain_in enclosure c) (Some (texts.Inside enclosure)) None apart.2 ∙ text_again enclosure pieces each.1
text_again enclosure (Echar c ∷ pieces) each =
    let apart = letter_apart enclosure c each.0 in
    let rest = rest_of enclosure pieces in
    sym (backslash enclosure (c ∷ rest))
    ∙ when_false (on rest) (c == 117) (Some (texts.Digits enclosure 4 0))
    (cond (c == 85) (Some (texts.Digits enclosure 8 0)) (cond (is_letter_in enclosure c) (Some (texts.Inside enclosure)) None)) apart.0
    ∙ when_false (on rest) (c == 85) (Some (texts.Digits enclosure 8 0)) (cond (is_letter_in enclosure c) (Some (texts.Inside enclosure)) None) apart.1
    ∙ when_true (on rest) (is_letter_in enclosure c) (Some (texts.Inside enclosure)) None each.0 ∙ text_again enclosure pieces each.1
text_again enclosure (Uchar4 a b c d ∷ pieces) each =
    let rest = rest_of enclosure pieces in
    sym (backslash enclosure (117 ∷ a ∷ b ∷ c ∷ d ∷ rest)) ∙ uchar4_again enclosure a b c d rest each.0 (text_again enclosure pieces each.1)
text_again enclosure (Uchar8 a b c d e f g h ∷ pieces) each =
    let rest = rest_of enclosure pieces in
    sym (backslash enclosure (85 ∷ a ∷ b ∷ c ∷ d ∷ e ∷ f ∷ g ∷ h ∷ rest))
    ∙ uchar8_again enclosure a b c d e f g h rest each.0 (text_again enclosure pieces each.1)

-- ---- behind the first quote

abbrev pub IsQuote : Enclosure → Type 0
IsQuote Brackets = ⊥
IsQuote Quotes = Unit {0}
IsQuote Apostrophes = Unit {0}

abbrev pub IsLongRest : Enclosure → TokenKind → List ℕ → Type 0
IsLongRest enclosure kind cs = (kind ≡ kinds.Long) × (cs ≡ closing enclosure ∷ closing enclosure ∷ [])

long_takes : (cs : List ℕ) (kind : TokenKind) → text_run (Some texts.Long) cs ≡ Some kind → (kind ≡ kinds.Long) × (cs ≡ [])
long_takes [] kind h = (cc, refl)
long_takes (c ∷ cs) kind h = absurd cc

empty_takes : (enclosure : Enclosure) (cs : List ℕ) (kind : TokenKind) → text_run (Some (texts.Empty enclosure)) cs ≡ Some kind
    → ((kind ≡ kinds.Str) × (cs ≡ [])) ⊎ ((kind ≡ kinds.Long) × (cs ≡ closing enclosure ∷ []))
empty_takes enclosure [] kind h = inl (cc, refl)
empty_takes enclosure (c ∷ cs) kind h =
    let step = only (on cs) (c == closing enclosure) texts.Long kind refl h in
    let rest = long_takes cs kind step.1 in
    inr (rest.0, ap (λ (x : ℕ). x ∷ cs) (eqb-true c (closing enclosure) step.0) ∙ ap (λ (x : List ℕ). closing enclosure ∷ x) rest.1)

quoted_kind : (enclosure : Enclosure) → IsQuote enclosure → kinds.Str ≡ kind_of enclosure
quoted_kind Brackets q = absurd q
quoted_kind Quotes q = refl
quoted_kind Apostrophes q = refl

pub opened_takes : (enclosure : Enclosure) (cs : List ℕ) (kind : TokenKind) → IsQuote enclosure → text_run (Some (texts.Opened enclosure)) cs ≡ Some kind
    → ((kind ≡ kinds.Str) × IsTextRest enclosure cs) ⊎ IsLongRest enclosure kind cs
opened_takes enclosure [] kind q h = absurd cc
opened_takes enclosure (c ∷ cs) kind q h =
    elim (split (on cs) (c == closing enclosure) (Some (texts.Empty enclosure)) (inside enclosure c) (Some kind) h) [
      | inl (p, r) ↦
          let is : c ≡ closing enclosure = eqb-true c (closing enclosure) p in
          elim (empty_takes enclosure cs kind r) [
            | inl (k, e) ↦ inl (k, record { pieces = []; each = tt; spelled = ap (λ (x : ℕ). x ∷ cs) is ∙ ap (λ (x : List ℕ). closing enclosure ∷ x) e })
            | inr (k, e) ↦ inr (k, ap (λ (x : ℕ). x ∷ cs) is ∙ ap (λ (x : List ℕ). closing enclosure ∷ x) e)
          ]
      | inr (p, r) ↦
          let rest = inside_takes enclosure c cs kind (taken enclosure cs) r in
          inl (rest.0 ∙ sym (quoted_kind enclosure q), rest.1)
    ]

pub long_again : (enclosure : Enclosure) → text_run (Some (texts.Opened enclosure)) (closing enclosure ∷ closing enclosure ∷ []) ≡ Some kinds.Long
long_again Brackets = refl
long_again Quotes = refl
long_again Apostrophes = refl

opened_first : (enclosure : Enclosure) (c : ℕ) (cs : List ℕ) → (c == closing enclosure) ≡ false
    → text_run (Some (texts.Opened enclosure)) (c ∷ cs) ≡ text_run (Some (texts.Inside enclosure)) (c ∷ cs)
opened_first enclosure c cs h = when_false (on cs) (c == closing enclosure) (Some (texts.Empty enclosure)) (inside enclosure c) h

no_backslash : (enclosure : Enclosure) → (92 == closing enclosure) ≡ false
no_backslash Brackets = refl
no_backslash Quotes = refl
no_backslash Apostrophes = refl

empty_again : (enclosure : Enclosure) → IsQuote enclosure → text_run (Some (texts.Opened enclosure)) (closing enclosure ∷ []) ≡ Some (kind_of enclosure)
empty_again Brackets q = absurd q
empty_again Quotes q = refl
empty_again Apostrophes q = refl

pub opened_again : (enclosure : Enclosure) (pieces : List Piece) → IsQuote enclosure → AllByRecursion (λ piece. IsTrue (allowed enclosure piece)) pieces
    → text_run (Some (texts.Opened enclosure)) (rest_of enclosure pieces) ≡ Some (kind_of enclosure)
opened_again enclosure [] q each = empty_again enclosure q
opened_again enclosure (Itself c ∷ pieces) q each =
    opened_first enclosure c (rest_of enclosure pieces) (plain_apart enclosure c each.0).0 ∙ text_again enclosure (Itself c ∷ pieces) each
opened_again enclosure (Echar c ∷ pieces) q each =
    opened_first enclosure 92 (c ∷ rest_of enclosure pieces) (no_backslash enclosure) ∙ text_again enclosure (Echar c ∷ pieces) each
opened_again enclosure (Uchar4 a b c d ∷ pieces) q each =
    opened_first enclosure 92 (117 ∷ a ∷ b ∷ c ∷ d ∷ rest_of enclosure pieces) (no_backslash enclosure) ∙ text_again enclosure (Uchar4 a b c d ∷ pieces) each
opened_again enclosure (Uchar8 a b c d e f g h ∷ pieces) q each =
    opened_first enclosure 92 (85 ∷ a ∷ b ∷ c ∷ d ∷ e ∷ f ∷ g ∷ h ∷ rest_of enclosure pieces) (no_backslash enclosure)
    ∙ text_again enclosure (Uchar8 a b c d e f g h ∷ pieces) each
