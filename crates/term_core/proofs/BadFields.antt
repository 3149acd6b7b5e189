-- Which field of bytes is bad, and that no term has such a spelling.
use Rattle.std.proofs.Common.{◌≡◌, ℕ, ◌<◌, ◌≤◌, ◌+◌, ◌^◌, zero, suc, List, [], ◌∷◌, ◌++◌, length, take, drop, get_or, refl, sym, ap, subst, ◌∙◌, append_assoc, length-append, inl, inr, arith, Fits, w8}
use Rattle.std.specs.Int.{w32, w64, to_be_bytes, from_be_bytes}
use Rattle.std.specs.Str.{IsUtf8}
use Rattle.std.proofs.lemmas.List.{take_at, length-take-le, take-append-drop}
use Rattle.std.proofs.lemmas.Nat.{be_bytes_4, be_bytes_8, from_be_bytes-to_be_bytes_4}
use Rattle.term_core.specs.declared.term.Term.{Term}
use Rattle.term_core.specs.declared.term.Term.TheVariants.{Iri, Literal, Tagged, Blank}
use Rattle.term_core.specs.Term.{IsTerm, IsIri, IsTag, IsLabel, IsForm}
use Rattle.term_core.specs.Spelling.{counted, spelling, IsKind, HasForm, BreaksRule, IsFirstBadField, wrong_kind, wrong_iri, short_length, wrong_form, wrong_datatype, wrong_tag, short_time, wrong_label}
use Rattle.term_core.specs.declared.fault.TermFault.{TermFault}
use Rattle.term_core.specs.declared.fault.TermFault.TheVariants.{NoMemory, BadTerm}
use Rattle.term_core.specs.Decoding.{IsBadTermAt}
use Rattle.term_core.specs.Faults.{IsNoMemory, IsTermFault}
use Rattle.term_core.proofs.Places.{bad_place_same}
use Rattle.term_core.proofs.Spelling.{first_same, rest_same, parts_same, counted_same}

-- ---- forms in front

-- the form that is cut behind its length
pub form_in_front : (fields texts front rest form : List ℕ) (n : ℕ) → n < 2 ^ 32 → fields ≡ to_be_bytes w32 n ++ texts
    → front ≡ take n texts → rest ≡ drop n texts → length front ≡ n → form ≡ front → IsUtf8 front
    → IsForm form × (fields ≡ counted form ++ rest)
form_in_front fields texts front rest form n low cut is_front is_rest long same utf8 =
    let count : length form ≡ n = ap length same ∙ long in
    let halves : texts ≡ form ++ rest =
    sym (take-append-drop n texts) ∙ ap (λ l. l ++ drop n texts) (sym (same ∙ is_front)) ∙ ap (λ l. form ++ l) (sym is_rest) in (
      record { utf8 = subst IsUtf8 (sym same) utf8; short = omega arith },
      cut ∙ ap (λ m. to_be_bytes w32 m ++ texts) (sym count) ∙ ap (λ l. to_be_bytes w32 (length form) ++ l) halves
          ∙ sym (append_assoc (to_be_bytes w32 (length form)) form rest),
    )

-- ---- the bad field

pub no_kind : IsFirstBadField [] 0
no_kind = record { front = []; rest = []; cut = refl; place = refl; broken = wrong_kind refl (λ b behind e. absurd cc) }

pub unknown_kind : (kind : ℕ) (fields : List ℕ) → ¬ IsKind kind → IsFirstBadField (kind ∷ fields) 0
unknown_kind kind fields unknown =
    record {
      front = [];
      rest = kind ∷ fields;
      cut = refl;
      place = refl;
      broken = wrong_kind refl (λ b behind e is. unknown (subst IsKind (sym (first_same kind b fields behind e)) is));
    }

pub iri_is_bad : (fields : List ℕ) → ¬ IsIri fields → IsFirstBadField (1 ∷ fields) 1
iri_is_bad fields isnt = record { front = 1 ∷ []; rest = fields; cut = refl; place = refl; broken = wrong_iri refl isnt }

pub length_is_short : (fields : List ℕ) → length fields < 4 → (kind : ℕ) → HasForm kind → IsFirstBadField (kind ∷ fields) 1
length_is_short fields short kind has =
    record { front = kind ∷ []; rest = fields; cut = refl; place = refl; broken = short_length kind has refl short }

pub form_is_bad : (fields texts : List ℕ) (n : ℕ) → n < 2 ^ 32 → fields ≡ to_be_bytes w32 n ++ texts
    → ((text behind : List ℕ) → texts ≡ text ++ behind → length text ≡ n → ¬ IsUtf8 text)
    → (kind : ℕ) → HasForm kind → IsFirstBadField (kind ∷ fields) 5
form_is_bad fields texts n low cut none kind has =
    record { front = kind ∷ to_be_bytes w32 n; rest = texts; cut = ap (λ l. kind ∷ l) cut; place = refl; broken = wrong_form kind n has low refl none }

pub form_is_short : (texts : List ℕ) (n : ℕ) → length texts < n → (text behind : List ℕ) → texts ≡ text ++ behind → length text ≡ n → ¬ IsUtf8 text
form_is_short texts n short text behind e long utf8 =
    let whole : length texts ≡ length text + length behind = ap length e ∙ length-append text behind in absurd (omega arith)

pub form_is_broken : (texts form : List ℕ) (n : ℕ) → form ≡ take n texts → ¬ IsUtf8 form
    → (text behind : List ℕ) → texts ≡ text ++ behind → length text ≡ n → ¬ IsUtf8 text
form_is_broken texts form n front isnt text behind e long utf8 =
    let same : text ≡ form = sym (take_at text behind n long) ∙ ap (take n) (sym e) ∙ sym front in isnt (subst IsUtf8 same utf8)

-- the length of the tag byte and a counted text
counted_place : (b at : ℕ) (form : List ℕ) → at ≡ 5 + length form → at ≡ length (b ∷ counted form)
counted_place b at form is = omega arith

pub datatype_is_bad : (fields form rest : List ℕ) (at : ℕ) → IsForm form → fields ≡ counted form ++ rest → at ≡ 5 + length form → ¬ IsIri rest
    → IsFirstBadField (2 ∷ fields) at
datatype_is_bad fields form rest at is cut place isnt =
    record {
      front = 2 ∷ counted form;
      rest = rest;
      cut = ap (λ l. 2 ∷ l) cut;
      place = counted_place 2 at form place;
      broken = wrong_datatype form is refl isnt;
    }

pub tag_is_bad : (fields form rest : List ℕ) (at : ℕ) → IsForm form → fields ≡ counted form ++ rest → at ≡ 5 + length form → ¬ IsTag rest
    → IsFirstBadField (3 ∷ fields) at
tag_is_bad fields form rest at is cut place isnt =
    record {
      front = 3 ∷ counted form;
      rest = rest;
      cut = ap (λ l. 3 ∷ l) cut;
      place = counted_place 3 at form place;
      broken = wrong_tag form is refl isnt;
    }

pub time_is_short : (fields : List ℕ) → length fields < 8 → IsFirstBadField (4 ∷ fields) 1
time_is_short fields short = record { front = 4 ∷ []; rest = fields; cut = refl; place = refl; broken = short_time refl short }

pub label_is_bad : (fields rest : List ℕ) (n : ℕ) → fields ≡ to_be_bytes w64 n ++ rest → ¬ IsLabel rest → IsFirstBadField (4 ∷ fields) 9
label_is_bad fields rest n cut isnt =
    record {
      front = 4 ∷ to_be_bytes w64 n;
      rest = rest;
      cut = ap (λ l. 4 ∷ l) cut;
      place = refl;
      broken = wrong_label (to_be_bytes w64 n) refl refl isnt;
    }

-- ---- what the fields of a term are

kind_of : (term : Term) → (b : ℕ) × (fields : List ℕ) × (spelling term ≡ b ∷ fields) × IsKind b
kind_of (Iri iri) = (1, iri, refl, inl refl)
kind_of (Literal form datatype) = (2, counted form ++ datatype, refl, inr (inl refl))
kind_of (Tagged form tag) = (3, counted form ++ tag, refl, inr (inr (inl refl)))
kind_of (Blank at label) = (4, to_be_bytes w64 at ++ label, refl, inr (inr (inr refl)))

iri_of : (fields : List ℕ) (term : Term) → IsTerm term → 1 ∷ fields ≡ spelling term → IsIri fields
iri_of fields (Iri iri) is e = subst IsIri (sym (rest_same 1 1 fields iri e)) is
iri_of fields (Literal form datatype) is e = let k = first_same 1 2 _ _ e in absurd (omega arith)
iri_of fields (Tagged form tag) is e = let k = first_same 1 3 _ _ e in absurd (omega arith)
iri_of fields (Blank at label) is e = let k = first_same 1 4 _ _ e in absurd (omega arith)

literal_of : (fields : List ℕ) (term : Term) → IsTerm term → 2 ∷ fields ≡ spelling term
    → (form : List ℕ) × (datatype : List ℕ) × (fields ≡ counted form ++ datatype) × IsForm form × IsIri datatype
literal_of fields (Iri iri) is e = let k = first_same 2 1 _ _ e in absurd (omega arith)
literal_of fields (Literal form datatype) is e = (form, datatype, rest_same 2 2 _ _ e, is.0, is.1)
literal_of fields (Tagged form tag) is e = let k = first_same 2 3 _ _ e in absurd (omega arith)
literal_of fields (Blank at label) is e = let k = first_same 2 4 _ _ e in absurd (omega arith)

tagged_of : (fields : List ℕ) (term : Term) → IsTerm term → 3 ∷ fields ≡ spelling term
    → (form : List ℕ) × (tag : List ℕ) × (fields ≡ counted form ++ tag) × IsForm form × IsTag tag
tagged_of fields (Iri iri) is e = let k = first_same 3 1 _ _ e in absurd (omega arith)
tagged_of fields (Literal form datatype) is e = let k = first_same 3 2 _ _ e in absurd (omega arith)
tagged_of fields (Tagged form tag) is e = (form, tag, rest_same 3 3 _ _ e, is.0, is.1)
tagged_of fields (Blank at label) is e = let k = first_same 3 4 _ _ e in absurd (omega arith)

blank_of : (fields : List ℕ) (term : Term) → IsTerm term → 4 ∷ fields ≡ spelling term
    → (at : ℕ) × (label : List ℕ) × (fields ≡ to_be_bytes w64 at ++ label) × IsLabel label
blank_of fields (Iri iri) is e = let k = first_same 4 1 _ _ e in absurd (omega arith)
blank_of fields (Literal form datatype) is e = let k = first_same 4 2 _ _ e in absurd (omega arith)
blank_of fields (Tagged form tag) is e = let k = first_same 4 3 _ _ e in absurd (omega arith)
blank_of fields (Blank at label) is e = (at, label, rest_same 4 4 _ _ e, is.1)

form_of : (kind : ℕ) (fields : List ℕ) → HasForm kind → (term : Term) → IsTerm term → kind ∷ fields ≡ spelling term
    → (form : List ℕ) × (rest : List ℕ) × (fields ≡ counted form ++ rest) × IsForm form
form_of kind fields has term is e =
    elim has [
      | inl two ↦ let l = literal_of fields term is (ap (λ b. b ∷ fields) (sym two) ∙ e) in (l.0, l.1, l.2, l.3)
      | inr three ↦ let t = tagged_of fields term is (ap (λ b. b ∷ fields) (sym three) ∙ e) in (t.0, t.1, t.2, t.3)
    ]

-- ---- no term is spelled by bytes with a bad field

no_term : (front rest : List ℕ) → BreaksRule front rest → (term : Term) → IsTerm term → front ++ rest ≡ spelling term → ⊥
no_term front rest (wrong_kind nothing none) term is e =
    let k = kind_of term in none k.0 k.1 (ap (λ f. f ++ rest) (sym nothing) ∙ e ∙ k.2) k.3
no_term front rest (wrong_iri one isnt) term is e = isnt (iri_of rest term is (ap (λ f. f ++ rest) (sym one) ∙ e))
no_term front rest (short_length b has one short) term is e =
    let f = form_of b rest has term is (ap (λ f. f ++ rest) (sym one) ∙ e) in
    let long : length rest ≡ length (counted f.0) + length f.1 = ap length f.2 ∙ length-append (counted f.0) f.1 in
    absurd (omega arith)
no_term front rest (wrong_form b n has low is_front none) term is e =
    let f = form_of b (to_be_bytes w32 n ++ rest) has term is (ap (λ f. f ++ rest) (sym is_front) ∙ e) in
    let split = append_assoc (to_be_bytes w32 (length f.0)) f.0 f.1 in
    let parts = parts_same (to_be_bytes w32 n) (to_be_bytes w32 (length f.0)) rest (f.0 ++ f.1) refl (f.2 ∙ split) in
    let count : n ≡ length f.0 = sym (from_be_bytes-to_be_bytes_4 n low) ∙ ap (from_be_bytes w32) parts.0 ∙ from_be_bytes-to_be_bytes_4 (length f.0) f.3.short in
    none f.0 f.1 parts.1 (sym count) f.3.utf8
no_term front rest (wrong_datatype text good is_front isnt) term is e =
    let l = literal_of (counted text ++ rest) term is (ap (λ f. f ++ rest) (sym is_front) ∙ e) in
    isnt (subst IsIri (sym (counted_same text l.0 rest l.1 good.short l.3.short l.2).1) l.4)
no_term front rest (wrong_tag text good is_front isnt) term is e =
    let t = tagged_of (counted text ++ rest) term is (ap (λ f. f ++ rest) (sym is_front) ∙ e) in
    isnt (subst IsTag (sym (counted_same text t.0 rest t.1 good.short t.3.short t.2).1) t.4)
no_term front rest (short_time one short) term is e =
    let b = blank_of rest term is (ap (λ f. f ++ rest) (sym one) ∙ e) in
    let long : length rest ≡ length (to_be_bytes w64 b.0) + length b.1 = ap length b.2 ∙ length-append (to_be_bytes w64 b.0) b.1 in
    absurd (omega arith)
no_term front rest (wrong_label time long is_front isnt) term is e =
    let b = blank_of (time ++ rest) term is (ap (λ f. f ++ rest) (sym is_front) ∙ e) in
    isnt (subst IsLabel (sym (parts_same time (to_be_bytes w64 b.0) rest b.1 long b.2).1) b.3)

pub bad_spells_none : (bytes : List ℕ) (at : ℕ) → IsFirstBadField bytes at → (term : Term) → IsTerm term → bytes ≡ spelling term → ⊥
bad_spells_none bytes at bad term is e = no_term bad.front bad.rest bad.broken term is (sym bad.cut ∙ e)

-- ---- what the fault of a reader tells

pub bad_is_no_want : (bytes : List ℕ) (fault : TermFault) → IsBadTermAt bytes fault → (term : Term) → IsTerm term → bytes ≡ spelling term → IsNoMemory fault
bad_is_no_want bytes NoMemory bad term is e = tt
bad_is_no_want bytes (BadTerm at) bad term is e = bad_spells_none bytes at bad term is e

pub bad_has_cause : (bytes : List ℕ) (fault : TermFault) → IsBadTermAt bytes fault → IsTermFault bytes fault
bad_has_cause bytes NoMemory bad = tt
bad_has_cause bytes (BadTerm at) bad = (bad, bad_spells_none bytes at bad)

pub bad_is_here : (bytes : List ℕ) (fault : TermFault) → IsBadTermAt bytes fault → (at : ℕ) → IsFirstBadField bytes at → fault ≡ BadTerm at
bad_is_here bytes NoMemory bad at is = absurd bad
bad_is_here bytes (BadTerm place) bad at is = ap BadTerm (bad_place_same bytes place at bad is)
