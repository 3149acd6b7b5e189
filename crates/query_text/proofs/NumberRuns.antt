-- Numbers, character by character.
use Rattle.std.proofs.Common.{◌≡◌, ◌≢◌, ℕ, arith, Bool, true, false, cond, ◌||◌, ◌==◌, ◌⊎◌, List, [], ◌∷◌, ◌++◌, Option, Some, None, refl, sym, ap, subst, ◌∙◌, inl, inr, append_assoc}
use Rattle.std.proofs.lemmas.Bool.{and_parts, and_from, eqb-true}
use Rattle.std.proofs.lemmas.List.{append-nil}
use Rattle.std.proofs.lemmas.Bool.Decides.{nat_tests}
use Rattle.term_core.specs.Characters.{is_digit}
use Rattle.query_text.specs.declared.kind.TokenKind.{TokenKind}
use Rattle.query_text.specs.declared.kind.TokenKind.TheVariants as kinds
use Rattle.query_text.specs.declared.number_scan.NumberScan.{NumberScan}
use Rattle.query_text.specs.declared.number_scan.NumberScan.TheVariants as numbers
use Rattle.query_text.specs.Tokens.{are_digits, is_number, without_sign, IsInteger, IsPointed, IsDecimal, IsDouble, IsOf}
use Rattle.query_text.specs.Scanning.{number_advance, number_accepted, with_mark, exponent}
use Rattle.query_text.proofs.Choices.{split, only, when_true, when_false}

abbrev pub number_run : Option NumberScan → List ℕ → Option TokenKind
number_run None cs = None
number_run (Some scan) [] = number_accepted scan
number_run (Some scan) (c ∷ cs) = number_run (number_advance scan c) cs

abbrev on : List ℕ → Option NumberScan → Option TokenKind
on cs scan = number_run scan cs

abbrev pub is_sign : ℕ → Bool
is_sign c = c == 43 || c == 45

abbrev pub is_e : ℕ → Bool
is_e c = c == 101 || c == 69

digit_no_sign : (c : ℕ) → is_digit c ≡ true → is_sign c ≡ false
digit_no_sign c h = grind (arith, nat_tests)

sign_no_digit : (c : ℕ) → is_sign c ≡ true → is_digit c ≡ false
sign_no_digit c h = grind (arith, nat_tests)

e_no_digit : (c : ℕ) → is_e c ≡ true → is_digit c ≡ false
e_no_digit c h = grind (arith, nat_tests)

e_no_dot : (c : ℕ) → is_e c ≡ true → (c == 46) ≡ false
e_no_dot c h = grind (arith, nat_tests)

digits_from : (c : ℕ) (cs : List ℕ) → is_digit c ≡ true → are_digits cs ≡ true → are_digits (c ∷ cs) ≡ true
digits_from c cs h k = and_from (is_digit c) (are_digits cs) h k

-- ---- exponents

double_takes : (cs : List ℕ) (kind : TokenKind) → number_run (Some numbers.Double) cs ≡ Some kind → (kind ≡ kinds.Double) × (are_digits cs ≡ true)
double_takes [] kind h = (cc, refl)
double_takes (c ∷ cs) kind h =
    let step = only (on cs) (is_digit c) numbers.Double kind refl h in
    let rest = double_takes cs kind step.1 in
    (rest.0, digits_from c cs step.0 rest.1)

double_again : (cs : List ℕ) → are_digits cs ≡ true → number_run (Some numbers.Double) cs ≡ Some kinds.Double
double_again [] h = refl
double_again (c ∷ cs) h =
    let parts = and_parts (is_digit c) (are_digits cs) h in
    when_true (on cs) (is_digit c) (Some numbers.Double) None parts.0 ∙ double_again cs parts.1

signed_takes : (cs : List ℕ) (kind : TokenKind) → number_run (Some numbers.ExponentSign) cs ≡ Some kind → (kind ≡ kinds.Double) × (is_number cs ≡ true)
signed_takes [] kind h = absurd cc
signed_takes (c ∷ cs) kind h =
    let step = only (on cs) (is_digit c) numbers.Double kind refl h in
    let rest = double_takes cs kind step.1 in
    (rest.0, and_from (is_digit c) (are_digits cs) step.0 rest.1)

signed_again : (cs : List ℕ) → is_number cs ≡ true → number_run (Some numbers.ExponentSign) cs ≡ Some kinds.Double
signed_again [] h = absurd cc
signed_again (c ∷ cs) h =
    let parts = and_parts (is_digit c) (are_digits cs) h in
    when_true (on cs) (is_digit c) (Some numbers.Double) None parts.0 ∙ double_again cs parts.1

unsigned_is : (c : ℕ) (cs : List ℕ) → is_sign c ≡ false → without_sign (c ∷ cs) ≡ c ∷ cs
unsigned_is c cs h = when_false (λ (x : List ℕ). x) (is_sign c) cs (c ∷ cs) h

signed_is : (c : ℕ) (cs : List ℕ) → is_sign c ≡ true → without_sign (c ∷ cs) ≡ cs
signed_is c cs h = when_true (λ (x : List ℕ). x) (is_sign c) cs (c ∷ cs) h

integer_from : (c : ℕ) (cs : List ℕ) → is_digit c ≡ true → are_digits cs ≡ true → IsInteger (c ∷ cs)
integer_from c cs h k =
    subst (λ (x : List ℕ). is_number x ≡ true) (sym (unsigned_is c cs (digit_no_sign c h))) (and_from (is_digit c) (are_digits cs) h k)

exponent_takes : (cs : List ℕ) (kind : TokenKind) → number_run (Some numbers.Exponent) cs ≡ Some kind → (kind ≡ kinds.Double) × IsInteger cs
exponent_takes [] kind h = absurd cc
exponent_takes (c ∷ cs) kind h =
    elim (split (on cs) (is_digit c) (Some numbers.Double) (with_mark numbers.Exponent c) (Some kind) h) [
      | inl (p, r) ↦ let rest = double_takes cs kind r in (rest.0, integer_from c cs p rest.1)
      | inr (p, r) ↦
          let step = only (on cs) (is_sign c) numbers.ExponentSign kind refl r in
          let rest = signed_takes cs kind step.1 in
          (rest.0, subst (λ (x : List ℕ). is_number x ≡ true) (sym (signed_is c cs step.0)) rest.1)
    ]

exponent_step : (c : ℕ) (cs : List ℕ) (signed : Bool) → is_sign c ≡ signed → is_number (cond signed cs (c ∷ cs)) ≡ true
    → number_run (Some numbers.Exponent) (c ∷ cs) ≡ Some kinds.Double
exponent_step c cs true p h =
    when_false (on cs) (is_digit c) (Some numbers.Double) (with_mark numbers.Exponent c) (sign_no_digit c p)
    ∙ when_true (on cs) (is_sign c) (Some numbers.ExponentSign) None p ∙ signed_again cs h
exponent_step c cs false p h =
    let parts = and_parts (is_digit c) (are_digits cs) h in
    when_true (on cs) (is_digit c) (Some numbers.Double) (with_mark numbers.Exponent c) parts.0 ∙ double_again cs parts.1

exponent_again : (cs : List ℕ) → IsInteger cs → number_run (Some numbers.Exponent) cs ≡ Some kinds.Double
exponent_again [] h = absurd cc
exponent_again (c ∷ cs) h = exponent_step c cs (is_sign c) refl h

-- ---- behind the dot

-- digits and an exponent
record IsPartRest (cs : List ℕ) : Type 0 where
  part : List ℕ
  mark : ℕ
  power : List ℕ
  spelled : cs ≡ part ++ mark ∷ power
  part_is : are_digits part ≡ true
  mark_is : is_e mark ≡ true
  power_is : IsInteger power

longer : (c : ℕ) (cs : List ℕ) → is_digit c ≡ true → IsPartRest cs → IsPartRest (c ∷ cs)
longer c cs h r = record {
  part = c ∷ r.part;
  mark = r.mark;
  power = r.power;
  spelled = ap (λ (x : List ℕ). c ∷ x) r.spelled;
  part_is = digits_from c r.part h r.part_is;
  mark_is = r.mark_is;
  power_is = r.power_is;
}

-- an exponent alone
mark_takes : (c : ℕ) (cs : List ℕ) (kind : TokenKind) → number_run (exponent c) cs ≡ Some kind → (kind ≡ kinds.Double) × (is_e c ≡ true) × IsInteger cs
mark_takes c cs kind h =
    let step = only (on cs) (is_e c) numbers.Exponent kind refl h in
    let rest = exponent_takes cs kind step.1 in
    (rest.0, step.0, rest.1)

at_mark : (c : ℕ) (cs : List ℕ) → is_e c ≡ true → IsInteger cs → IsPartRest (c ∷ cs)
at_mark c cs h k = record { part = []; mark = c; power = cs; spelled = refl; part_is = refl; mark_is = h; power_is = k }

abbrev IsAfterPoint : (List ℕ → Type 0) → List ℕ → TokenKind → Type 0
IsAfterPoint IsPart cs kind = ((kind ≡ kinds.Decimal) × IsPart cs) ⊎ ((kind ≡ kinds.Double) × IsPartRest cs)

decimal_takes : (cs : List ℕ) (kind : TokenKind) → number_run (Some numbers.Decimal) cs ≡ Some kind → IsAfterPoint (λ x. are_digits x ≡ true) cs kind
decimal_takes [] kind h = inl (cc, refl)
decimal_takes (c ∷ cs) kind h =
    elim (split (on cs) (is_digit c) (Some numbers.Decimal) (exponent c) (Some kind) h) [
      | inl (p, r) ↦ elim (decimal_takes cs kind r) [
        | inl (k, each) ↦ inl (k, digits_from c cs p each)
        | inr (k, rest) ↦ inr (k, longer c cs p rest)
      ]
      | inr (p, r) ↦ let rest = mark_takes c cs kind r in inr (rest.0, at_mark c cs rest.1 rest.2)
    ]

point_takes : (cs : List ℕ) (kind : TokenKind) → number_run (Some numbers.Point) cs ≡ Some kind → IsAfterPoint (λ x. is_number x ≡ true) cs kind
point_takes [] kind h = absurd cc
point_takes (c ∷ cs) kind h =
    elim (split (on cs) (is_digit c) (Some numbers.Decimal) (exponent c) (Some kind) h) [
      | inl (p, r) ↦ elim (decimal_takes cs kind r) [
        | inl (k, each) ↦ inl (k, and_from (is_digit c) (are_digits cs) p each)
        | inr (k, rest) ↦ inr (k, longer c cs p rest)
      ]
      | inr (p, r) ↦ let rest = mark_takes c cs kind r in inr (rest.0, at_mark c cs rest.1 rest.2)
    ]

decimal_again : (cs : List ℕ) → are_digits cs ≡ true → number_run (Some numbers.Decimal) cs ≡ Some kinds.Decimal
decimal_again [] h = refl
decimal_again (c ∷ cs) h =
    let parts = and_parts (is_digit c) (are_digits cs) h in
    when_true (on cs) (is_digit c) (Some numbers.Decimal) (exponent c) parts.0 ∙ decimal_again cs parts.1

mark_again : (c : ℕ) (cs : List ℕ) → is_e c ≡ true → IsInteger cs → number_run (exponent c) cs ≡ Some kinds.Double
mark_again c cs h k = when_true (on cs) (is_e c) (Some numbers.Exponent) None h ∙ exponent_again cs k

decimal_power : (part : List ℕ) (mark : ℕ) (power : List ℕ) → are_digits part ≡ true → is_e mark ≡ true → IsInteger power
    → number_run (Some numbers.Decimal) (part ++ mark ∷ power) ≡ Some kinds.Double
decimal_power [] mark power h m k =
    when_false (on power) (is_digit mark) (Some numbers.Decimal) (exponent mark) (e_no_digit mark m) ∙ mark_again mark power m k
decimal_power (c ∷ part) mark power h m k =
    let parts = and_parts (is_digit c) (are_digits part) h in
    when_true (on (part ++ mark ∷ power)) (is_digit c) (Some numbers.Decimal) (exponent c) parts.0 ∙ decimal_power part mark power parts.1 m k

point_again : (cs : List ℕ) → is_number cs ≡ true → number_run (Some numbers.Point) cs ≡ Some kinds.Decimal
point_again [] h = absurd cc
point_again (c ∷ cs) h =
    let parts = and_parts (is_digit c) (are_digits cs) h in
    when_true (on cs) (is_digit c) (Some numbers.Decimal) (exponent c) parts.0 ∙ decimal_again cs parts.1

point_power : (part : List ℕ) (mark : ℕ) (power : List ℕ) → are_digits part ≡ true → is_e mark ≡ true → IsInteger power
    → number_run (Some numbers.Point) (part ++ mark ∷ power) ≡ Some kinds.Double
point_power [] mark power h m k =
    when_false (on power) (is_digit mark) (Some numbers.Decimal) (exponent mark) (e_no_digit mark m) ∙ mark_again mark power m k
point_power (c ∷ part) mark power h m k =
    let parts = and_parts (is_digit c) (are_digits part) h in
    when_true (on (part ++ mark ∷ power)) (is_digit c) (Some numbers.Decimal) (exponent c) parts.0 ∙ decimal_power part mark power parts.1 m k

-- ---- numbers without a sign

-- digits and a dot with digits behind it, or before it, or both
pub record IsMantissa (digits : List ℕ) : Type 0 where
  pub whole : List ℕ
  pub part : List ℕ
  pub pointed : IsPointed digits whole part
  pub some : (whole ≡ []) → (part ≡ []) → ⊥

pub data IsUnsigned : TokenKind → List ℕ → Type 0 where
  an_integer : {digits : List ℕ} → is_number digits ≡ true → IsUnsigned kinds.Integer digits
  a_decimal : {digits : List ℕ} (whole part : List ℕ) → IsPointed digits whole part → part ≢ [] → IsUnsigned kinds.Decimal digits
  a_double : {digits : List ℕ} (mantissa : List ℕ) (mark : ℕ) (power : List ℕ) → digits ≡ mantissa ++ mark ∷ power
      → (is_number mantissa ≡ true) ⊎ IsMantissa mantissa → is_e mark ≡ true → IsInteger power → IsUnsigned kinds.Double digits

number_onto : (c : ℕ) (digits : List ℕ) → is_digit c ≡ true → is_number digits ≡ true → is_number (c ∷ digits) ≡ true
number_onto c [] h k = absurd cc
number_onto c (d ∷ ds) h k = digits_from c (d ∷ ds) h k

some_number : (digits : List ℕ) → is_number digits ≡ true → digits ≢ []
some_number [] h e = absurd cc
some_number (d ∷ ds) h e = absurd cc

pointed_onto : (c : ℕ) (digits whole part : List ℕ) → is_digit c ≡ true → IsPointed digits whole part → IsPointed (c ∷ digits) (c ∷ whole) part
pointed_onto c digits whole part h p =
    record { spelled = ap (λ (x : List ℕ). c ∷ x) p.spelled; whole_is = digits_from c whole h p.whole_is; part_is = p.part_is }

mantissa_onto : (c : ℕ) (digits : List ℕ) → is_digit c ≡ true → IsMantissa digits → IsMantissa (c ∷ digits)
mantissa_onto c digits h m =
    record { whole = c ∷ m.whole; part = m.part; pointed = pointed_onto c digits m.whole m.part h m.pointed; some = λ e f. absurd cc }

-- a digit before a number makes a number of the same kind
digit_onto : (c : ℕ) {kind : TokenKind} {digits : List ℕ} → is_digit c ≡ true → IsUnsigned kind digits → IsUnsigned kind (c ∷ digits)
digit_onto c h (an_integer {digits} is) = an_integer (number_onto c digits h is)
digit_onto c h (a_decimal {digits} whole part p some) = a_decimal (c ∷ whole) part (pointed_onto c digits whole part h p) some
digit_onto c h (a_double mantissa mark power spelled (inl is) m k) =
    a_double (c ∷ mantissa) mark power (ap (λ (x : List ℕ). c ∷ x) spelled) (inl (number_onto c mantissa h is)) m k
digit_onto c h (a_double mantissa mark power spelled (inr is) m k) =
    a_double (c ∷ mantissa) mark power (ap (λ (x : List ℕ). c ∷ x) spelled) (inr (mantissa_onto c mantissa h is)) m k

of_kind : {kind other : TokenKind} {digits : List ℕ} → kind ≡ other → IsUnsigned other digits → IsUnsigned kind digits
of_kind {kind} {other} {digits} e is = subst (λ (k : TokenKind). IsUnsigned k digits) (sym e) is

one_digit : (c : ℕ) → is_digit c ≡ true → are_digits (c ∷ []) ≡ true
one_digit c h = digits_from c [] h refl

-- whole, the dot and what follows it
behind_point : (whole cs : List ℕ) (kind : TokenKind) → are_digits whole ≡ true → whole ≢ [] → IsAfterPoint (λ x. is_number x ≡ true) cs kind
    → IsUnsigned kind (whole ++ 46 ∷ cs)
behind_point whole cs kind h some (inl (k, is)) =
    of_kind k (a_decimal whole cs (record { spelled = refl; whole_is = h; part_is = digits_of cs is }) (some_number cs is))
  where
    digits_of : (digits : List ℕ) → is_number digits ≡ true → are_digits digits ≡ true
    digits_of [] e = refl
    digits_of (d ∷ ds) e = e
behind_point whole cs kind h some (inr (k, r)) =
    of_kind k (a_double (whole ++ 46 ∷ r.part) r.mark r.power
    (ap (λ (x : List ℕ). whole ++ 46 ∷ x) r.spelled ∙ sym (append_assoc whole (46 ∷ r.part) (r.mark ∷ r.power)))
    (inr (record { whole = whole; part = r.part; pointed = record { spelled = refl; whole_is = h; part_is = r.part_is }; some = λ e f. some e })) r.mark_is r.power_is)

pub integer_takes : (cs : List ℕ) (c : ℕ) (kind : TokenKind) → is_digit c ≡ true → number_run (Some numbers.Integer) cs ≡ Some kind → IsUnsigned kind (c ∷ cs)
integer_takes [] c kind h r = let k : kind ≡ kinds.Integer = cc in of_kind k (an_integer (one_digit c h))
integer_takes (d ∷ cs) c kind h r =
    elim (split (on cs) (is_digit d) (Some numbers.Integer) (with_mark numbers.Integer d) (Some kind) r) [
      | inl (p, s) ↦ digit_onto c h (integer_takes cs d kind p s)
      | inr (p, s) ↦ elim (split (on cs) (d == 46) (Some numbers.Point) (exponent d) (Some kind) s) [
        | inl (q, t) ↦
            subst (λ (x : ℕ). IsUnsigned kind (c ∷ x ∷ cs)) (sym (eqb-true d 46 q))
            (behind_point (c ∷ []) cs kind (one_digit c h) (λ e. absurd cc) (point_takes cs kind t))
        | inr (q, t) ↦
            let rest = mark_takes d cs kind t in
            of_kind rest.0 (a_double (c ∷ []) d cs refl (inl (one_digit c h)) rest.1 rest.2)
      ]
    ]

abbrev pub EndsAt : Bool → TokenKind → List ℕ → Type 0
EndsAt alone kind cs = (alone ≡ true) × (kind ≡ kinds.Symbol) × (cs ≡ [])

symbol_takes : (alone : Bool) (kind : TokenKind) → cond alone (Some kinds.Symbol) None ≡ Some kind → EndsAt alone kind []
symbol_takes true kind h = (refl, cc, refl)
symbol_takes false kind h = absurd cc

after_dot : (c : ℕ) (cs : List ℕ) (kind : TokenKind) → is_digit c ≡ true → IsAfterPoint (λ x. are_digits x ≡ true) cs kind → IsUnsigned kind (46 ∷ c ∷ cs)
after_dot c cs kind h (inl (k, is)) =
    of_kind k (a_decimal [] (c ∷ cs) (record { spelled = refl; whole_is = refl; part_is = digits_from c cs h is }) (λ e. absurd cc))
after_dot c cs kind h (inr (k, r)) =
    of_kind k (a_double (46 ∷ c ∷ r.part) r.mark r.power (ap (λ (x : List ℕ). 46 ∷ c ∷ x) r.spelled)
    (inr (record {
      whole = [];
      part = c ∷ r.part;
      pointed = record { spelled = refl; whole_is = refl; part_is = digits_from c r.part h r.part_is };
      some = λ e f. absurd cc;
    })) r.mark_is r.power_is)

pub dot_takes : (alone : Bool) (cs : List ℕ) (kind : TokenKind) → number_run (Some (numbers.Dot alone)) cs ≡ Some kind
    → EndsAt alone kind cs ⊎ IsUnsigned kind (46 ∷ cs)
dot_takes alone [] kind r = inl (symbol_takes alone kind r)
dot_takes alone (c ∷ cs) kind r =
    let step = only (on cs) (is_digit c) numbers.Decimal kind refl r in
    inr (after_dot c cs kind step.0 (decimal_takes cs kind step.1))

never_alone : {kind : TokenKind} {cs : List ℕ} → EndsAt false kind cs ⊎ IsUnsigned kind (46 ∷ cs) → IsUnsigned kind (46 ∷ cs)
never_alone (inl h) = absurd cc
never_alone (inr h) = h

pub sign_takes : (plus : Bool) (cs : List ℕ) (kind : TokenKind) → number_run (Some (numbers.Sign plus)) cs ≡ Some kind → EndsAt plus kind cs ⊎ IsUnsigned kind cs
sign_takes plus [] kind r = inl (symbol_takes plus kind r)
sign_takes plus (c ∷ cs) kind r =
    elim (split (on cs) (is_digit c) (Some numbers.Integer) (with_mark (numbers.Sign plus) c) (Some kind) r) [
      | inl (p, s) ↦ inr (integer_takes cs c kind p s)
      | inr (p, s) ↦
          let step = only (on cs) (c == 46) (numbers.Dot false) kind refl s in
          inr (subst (λ (x : ℕ). IsUnsigned kind (x ∷ cs)) (sym (eqb-true c 46 step.0)) (never_alone (dot_takes false cs kind step.1)))
    ]

-- ---- numbers are read

integer_again : (cs : List ℕ) → are_digits cs ≡ true → number_run (Some numbers.Integer) cs ≡ Some kinds.Integer
integer_again [] h = refl
integer_again (c ∷ cs) h =
    let parts = and_parts (is_digit c) (are_digits cs) h in
    when_true (on cs) (is_digit c) (Some numbers.Integer) (with_mark numbers.Integer c) parts.0 ∙ integer_again cs parts.1

-- digits, and then what a dot or an exponent begins
digits_then : (whole rest : List ℕ) (kind : TokenKind) → are_digits whole ≡ true → number_run (Some numbers.Integer) rest ≡ Some kind
    → number_run (Some numbers.Integer) (whole ++ rest) ≡ Some kind
digits_then [] rest kind h r = r
digits_then (c ∷ whole) rest kind h r =
    let parts = and_parts (is_digit c) (are_digits whole) h in
    when_true (on (whole ++ rest)) (is_digit c) (Some numbers.Integer) (with_mark numbers.Integer c) parts.0 ∙ digits_then whole rest kind parts.1 r

integer_power : (mark : ℕ) (power : List ℕ) → is_e mark ≡ true → IsInteger power → number_run (Some numbers.Integer) (mark ∷ power) ≡ Some kinds.Double
integer_power mark power m k =
    when_false (on power) (is_digit mark) (Some numbers.Integer) (with_mark numbers.Integer mark) (e_no_digit mark m)
    ∙ when_false (on power) (mark == 46) (Some numbers.Point) (exponent mark) (e_no_dot mark m) ∙ mark_again mark power m k

-- the first character of a number without a sign, and the run behind it
pub data Begins (kind : TokenKind) : List ℕ → Type 0 where
  with_digit_first : (c : ℕ) (cs : List ℕ) → is_digit c ≡ true → number_run (Some numbers.Integer) cs ≡ Some kind → Begins kind (c ∷ cs)
  with_dot_first : (cs : List ℕ) → ((alone : Bool) → number_run (Some (numbers.Dot alone)) cs ≡ Some kind) → Begins kind (46 ∷ cs)

digits_begin : (whole rest : List ℕ) (kind : TokenKind) → is_number whole ≡ true → number_run (Some numbers.Integer) rest ≡ Some kind → Begins kind (whole ++ rest)
digits_begin [] rest kind h r = absurd cc
digits_begin (c ∷ whole) rest kind h r =
    let parts = and_parts (is_digit c) (are_digits whole) h in
    with_digit_first c (whole ++ rest) parts.0 (digits_then whole rest kind parts.1 r)

dot_run : (part : List ℕ) (rest : List ℕ) (kind : TokenKind) → is_number part ≡ true
    → ((digits : List ℕ) → are_digits digits ≡ true → number_run (Some numbers.Decimal) (digits ++ rest) ≡ Some kind)
    → (alone : Bool) → number_run (Some (numbers.Dot alone)) (part ++ rest) ≡ Some kind
dot_run [] rest kind h r alone = absurd cc
dot_run (c ∷ part) rest kind h r alone =
    let parts = and_parts (is_digit c) (are_digits part) h in
    when_true (on (part ++ rest)) (is_digit c) (Some numbers.Decimal) None parts.0 ∙ r part parts.1

number_of : (digits : List ℕ) → are_digits digits ≡ true → digits ≢ [] → is_number digits ≡ true
number_of [] h some = absurd (some refl)
number_of (c ∷ cs) h some = h

integer_begins : (cs : List ℕ) → is_number cs ≡ true → Begins kinds.Integer cs
integer_begins cs h = subst (λ (x : List ℕ). Begins kinds.Integer x) (append-nil cs) (digits_begin cs [] kinds.Integer h refl)

decimal_begins : (whole part : List ℕ) → are_digits whole ≡ true → are_digits part ≡ true → part ≢ [] → Begins kinds.Decimal (whole ++ 46 ∷ part)
decimal_begins [] part h k some =
    with_dot_first part (λ alone. subst (λ (x : List ℕ). number_run (Some (numbers.Dot alone)) x ≡ Some kinds.Decimal) (append-nil part)
    (dot_run part [] kinds.Decimal (number_of part k some)
    (λ digits d. subst (λ (x : List ℕ). number_run (Some numbers.Decimal) x ≡ Some kinds.Decimal) (sym (append-nil digits)) (decimal_again digits d)) alone))
decimal_begins (c ∷ whole) part h k some =
    digits_begin (c ∷ whole) (46 ∷ part) kinds.Decimal h (point_again part (number_of part k some))

mantissa_begins : (whole part : List ℕ) (mark : ℕ) (power : List ℕ) → are_digits whole ≡ true → are_digits part ≡ true → ((whole ≡ []) → (part ≡ []) → ⊥)
    → is_e mark ≡ true → IsInteger power → Begins kinds.Double (whole ++ 46 ∷ (part ++ mark ∷ power))
mantissa_begins [] part mark power h k some m e =
    with_dot_first (part ++ mark ∷ power) (λ alone. dot_run part (mark ∷ power) kinds.Double (number_of part k (some refl))
    (λ digits d. decimal_power digits mark power d m e) alone)
mantissa_begins (c ∷ whole) part mark power h k some m e =
    digits_begin (c ∷ whole) (46 ∷ (part ++ mark ∷ power)) kinds.Double h (point_power part mark power k m e)

pub unsigned_begins : {kind : TokenKind} {digits : List ℕ} → IsUnsigned kind digits → Begins kind digits
unsigned_begins (an_integer {digits} is) = integer_begins digits is
unsigned_begins (a_decimal {digits} whole part p some) =
    subst (λ (x : List ℕ). Begins kinds.Decimal x) (sym p.spelled) (decimal_begins whole part p.whole_is p.part_is some)
unsigned_begins (a_double {digits} mantissa mark power spelled (inl is) m k) =
    subst (λ (x : List ℕ). Begins kinds.Double x) (sym spelled) (digits_begin mantissa (mark ∷ power) kinds.Double is (integer_power mark power m k))
unsigned_begins (a_double {digits} mantissa mark power spelled (inr is) m k) =
    subst (λ (x : List ℕ). Begins kinds.Double x)
    (sym (spelled ∙ ap (λ (x : List ℕ). x ++ mark ∷ power) is.pointed.spelled ∙ append_assoc is.whole (46 ∷ is.part) (mark ∷ power)))
    (mantissa_begins is.whole is.part mark power is.pointed.whole_is is.pointed.part_is is.some m k)

-- ---- signs

-- behind a sign
pub sign_run : {kind : TokenKind} {digits : List ℕ} → Begins kind digits → (plus : Bool) → number_run (Some (numbers.Sign plus)) digits ≡ Some kind
sign_run (with_digit_first c cs h r) plus = when_true (on cs) (is_digit c) (Some numbers.Integer) (with_mark (numbers.Sign plus) c) h ∙ r
sign_run (with_dot_first cs r) plus = r false

-- a number with its sign: what it is without it
pub record IsNumeral (kind : TokenKind) (characters : List ℕ) : Type 0 where
  pub some : characters ≢ []
  pub is : IsUnsigned kind (without_sign characters)

mantissa_of : (number : List ℕ) → IsInteger number ⊎ IsDecimal number ⊎ ((whole : List ℕ) × IsPointed (without_sign number) whole [] × (whole ≢ []))
    → (is_number (without_sign number) ≡ true) ⊎ IsMantissa (without_sign number)
mantissa_of number (inl is) = inl is
mantissa_of number (inr (inl (whole, part, is, some))) = inr (record { whole = whole; part = part; pointed = is; some = λ e f. some f })
mantissa_of number (inr (inr (whole, is, some))) = inr (record { whole = whole; part = []; pointed = is; some = λ e f. some e })

some_mantissa : (is_number [] ≡ true) ⊎ IsMantissa [] → ⊥
some_mantissa (inl h) = cc
some_mantissa (inr m) = no_point m.whole m.part m.pointed.spelled
  where
    no_point : (whole part : List ℕ) → [] ≡ whole ++ 46 ∷ part → ⊥
    no_point [] part e = cc
    no_point (c ∷ whole) part e = cc

-- the sign stands before the whole number
sign_before : (number rest : List ℕ) → number ≢ [] → without_sign (number ++ rest) ≡ without_sign number ++ rest
sign_before [] rest some = absurd (some refl)
sign_before (c ∷ cs) rest some = by (is_sign c)
  where
    by : (signed : Bool) → cond signed (cs ++ rest) (c ∷ (cs ++ rest)) ≡ cond signed cs (c ∷ cs) ++ rest
    by true = refl
    by false = refl

integer_numeral : (characters : List ℕ) → IsInteger characters → IsNumeral kinds.Integer characters
integer_numeral [] h = absurd cc
integer_numeral (c ∷ cs) h = record { some = λ e. absurd cc; is = an_integer h }

decimal_numeral : (characters : List ℕ) → IsDecimal characters → IsNumeral kinds.Decimal characters
decimal_numeral [] (whole, part, is, some) = absurd (some_mantissa (inr (record { whole = whole; part = part; pointed = is; some = λ e f. some f })))
decimal_numeral (c ∷ cs) (whole, part, is, some) = record { some = λ e. absurd cc; is = a_decimal whole part is some }

some_append : (xs : List ℕ) (y : ℕ) (ys : List ℕ) → xs ++ y ∷ ys ≢ []
some_append [] y ys e = absurd cc
some_append (x ∷ xs) y ys e = absurd cc

double_numeral : (characters : List ℕ) → IsDouble characters → IsNumeral kinds.Double characters
double_numeral characters h =
    let mantissa = mantissa_of h.number h.number_is in
    let filled : h.number ≢ [] = λ e. some_mantissa (subst (λ (x : List ℕ). (is_number x ≡ true) ⊎ IsMantissa x) (ap without_sign e) mantissa) in record {
      some = λ e. some_append h.number h.mark h.exponent (sym h.spelled ∙ e);
      is = a_double (without_sign h.number) h.mark h.exponent (ap without_sign h.spelled ∙ sign_before h.number (h.mark ∷ h.exponent) filled) mantissa h.mark_is h.exponent_is;
    }

pub numeral_of : (kind : TokenKind) (characters : List ℕ) → IsOf kind characters → (kind ≡ kinds.Integer) ⊎ (kind ≡ kinds.Decimal) ⊎ (kind ≡ kinds.Double)
    → IsNumeral kind characters
numeral_of kinds.Integer characters h one = integer_numeral characters h
numeral_of kinds.Decimal characters h one = decimal_numeral characters h
numeral_of kinds.Double characters h one = double_numeral characters h
numeral_of _ characters h (inl one) = absurd cc
numeral_of _ characters h (inr (inl one)) = absurd cc
numeral_of _ characters h (inr (inr one)) = absurd cc

-- ---- what a number without a sign is with one

number_from : (number mantissa : List ℕ) → without_sign number ≡ mantissa → (is_number mantissa ≡ true) ⊎ IsMantissa mantissa
    → IsInteger number ⊎ IsDecimal number ⊎ ((whole : List ℕ) × IsPointed (without_sign number) whole [] × (whole ≢ []))
number_from number mantissa e (inl is) = inl (subst (λ (x : List ℕ). is_number x ≡ true) (sym e) is)
number_from number mantissa e (inr m) = by m.part m.some (subst (λ (x : List ℕ). IsPointed x m.whole m.part) (sym e) m.pointed)
  where
    by : (part : List ℕ) → ((m.whole ≡ []) → (part ≡ []) → ⊥) → IsPointed (without_sign number) m.whole part
        → IsInteger number ⊎ IsDecimal number ⊎ ((whole : List ℕ) × IsPointed (without_sign number) whole [] × (whole ≢ []))
    by [] some is = inr (inr (m.whole, is, λ f. some f refl))
    by (p ∷ ps) some is = inr (inl (m.whole, p ∷ ps, is, λ f. absurd cc))

double_from : (characters number mantissa : List ℕ) (mark : ℕ) (power : List ℕ) → characters ≡ number ++ mark ∷ power → without_sign number ≡ mantissa
    → (is_number mantissa ≡ true) ⊎ IsMantissa mantissa → is_e mark ≡ true → IsInteger power → IsDouble characters
double_from characters number mantissa mark power spelled e is m k =
    record { number = number; mark = mark; exponent = power; spelled = spelled; number_is = number_from number mantissa e is; mark_is = m; exponent_is = k }

same_without : (c : ℕ) (cs mantissa : List ℕ) (mark : ℕ) (power : List ℕ) → is_sign c ≡ false → c ∷ cs ≡ mantissa ++ mark ∷ power
    → (is_number mantissa ≡ true) ⊎ IsMantissa mantissa → without_sign mantissa ≡ mantissa
same_without c cs [] mark power h e is = absurd (some_mantissa is)
same_without c cs (d ∷ ds) mark power h e is =
    let head : c ≡ d = cc in
    unsigned_is d ds (subst (λ (x : ℕ). is_sign x ≡ false) head h)

pub plain_number : (kind : TokenKind) (c : ℕ) (cs : List ℕ) → is_sign c ≡ false → IsUnsigned kind (c ∷ cs) → IsOf kind (c ∷ cs)
plain_number _ c cs h (an_integer is) = subst (λ (x : List ℕ). is_number x ≡ true) (sym (unsigned_is c cs h)) is
plain_number _ c cs h (a_decimal whole part is some) = (whole, part, subst (λ (x : List ℕ). IsPointed x whole part) (sym (unsigned_is c cs h)) is, some)
plain_number _ c cs h (a_double mantissa mark power spelled is m k) =
    double_from (c ∷ cs) mantissa mantissa mark power spelled (same_without c cs mantissa mark power h spelled is) is m k

pub signed_number : (kind : TokenKind) (c : ℕ) (cs : List ℕ) → is_sign c ≡ true → IsUnsigned kind cs → IsOf kind (c ∷ cs)
signed_number _ c cs h (an_integer is) = subst (λ (x : List ℕ). is_number x ≡ true) (sym (signed_is c cs h)) is
signed_number _ c cs h (a_decimal whole part is some) = (whole, part, subst (λ (x : List ℕ). IsPointed x whole part) (sym (signed_is c cs h)) is, some)
signed_number _ c cs h (a_double mantissa mark power spelled is m k) =
    double_from (c ∷ cs) (c ∷ mantissa) mantissa mark power (ap (λ (x : List ℕ). c ∷ x) spelled) (signed_is c mantissa h) is m k
