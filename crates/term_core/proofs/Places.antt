-- Bytes have one first bad field.
use Rattle.std.proofs.Common.{◌≡◌, ℕ, ◌<◌, ◌+◌, ◌^◌, cond, ◌&&◌, ◌||◌, ◌==◌, nat_lt, nat_le, List, [], ◌∷◌, ◌++◌, length, take, drop, refl, sym, ap, ◌∙◌, append_assoc, length-append, inl, inr, arith}
use Rattle.std.specs.Int.{w32, to_be_bytes, from_be_bytes}
use Rattle.std.specs.Str.{IsUtf8, is_utf8}
use Rattle.std.proofs.lemmas.Bool.{and_parts, and_from, or_from, ne_eqb, lt-ltb, le-ltb, le-leb, leb-true, cond-true, cond-false, false_from_ne_true}
use Rattle.std.proofs.lemmas.List.{take_at, length-take-le, take-append-drop}
use Rattle.std.proofs.lemmas.Nat.{from_be_bytes-to_be_bytes_4}
use Rattle.std.proofs.lemmas.Str.{IsUtf8-from_is_utf8, is_utf8-from_IsUtf8}
use Rattle.term_core.specs.Term.{IsForm}
use Rattle.term_core.specs.Spelling.{counted, IsKind, HasForm, BreaksRule, IsFirstBadField, wrong_kind, wrong_iri, short_length, wrong_form, wrong_datatype, wrong_tag, short_time, wrong_label}

-- Where reading from left to right stops at the latest: behind the last field whose end the bytes tell.
abbrev text_place : ℕ → List ℕ → ℕ
text_place n texts = cond (nat_le n (length texts) && is_utf8 (take n texts)) (5 + n) 5

abbrev form_place : List ℕ → ℕ
form_place fields = cond (nat_lt (length fields) 4) 1 (text_place (from_be_bytes w32 (take 4 fields)) (drop 4 fields))

abbrev blank_place : List ℕ → ℕ
blank_place fields = cond (nat_lt (length fields) 8) 1 9

abbrev place_of : List ℕ → ℕ
place_of [] = 0
place_of (b ∷ fields) = cond (b == 1) 1 (cond (b == 4) (blank_place fields) (cond (b == 2 || b == 3) (form_place fields) 0))

at_kind : (rest : List ℕ) → ((b : ℕ) (behind : List ℕ) → rest ≡ b ∷ behind → ¬ IsKind b) → place_of rest ≡ 0
at_kind [] none = refl
at_kind (b ∷ behind) none =
    let isnt = none b behind refl in
    cond-false (b == 1) _ _ (ne_eqb b 1 (λ e. isnt (inl e)))
    ∙ cond-false (b == 4) _ _ (ne_eqb b 4 (λ e. isnt (inr (inr (inr e)))))
    ∙ cond-false (b == 2 || b == 3) _ _ (or_from (b == 2) (b == 3) (ne_eqb b 2 (λ e. isnt (inr (inl e)))) (ne_eqb b 3 (λ e. isnt (inr (inr (inl e))))))

-- the kinds that have a form
at_form : (b : ℕ) (fields : List ℕ) → HasForm b → place_of (b ∷ fields) ≡ form_place fields
at_form b fields has =
    elim has [
      | inl two ↦ ap (λ k. place_of (k ∷ fields)) two
      | inr three ↦ ap (λ k. place_of (k ∷ fields)) three
    ]

at_length : (b : ℕ) (rest : List ℕ) → HasForm b → length rest < 4 → place_of (b ∷ rest) ≡ 1
at_length b rest has short = at_form b rest has ∙ cond-true (nat_lt (length rest) 4) _ _ (lt-ltb (length rest) 4 short)

-- behind a length
at_text : (b n : ℕ) (rest : List ℕ) → HasForm b → n < 2 ^ 32 → place_of (b ∷ (to_be_bytes w32 n ++ rest)) ≡ text_place n rest
at_text b n rest has low =
    at_form b (to_be_bytes w32 n ++ rest) has
    ∙ cond-false (nat_lt (length (to_be_bytes w32 n ++ rest)) 4) _ _ (le-ltb (length (to_be_bytes w32 n ++ rest)) 4 (omega arith))
    ∙ ap (λ m. text_place m rest) (from_be_bytes-to_be_bytes_4 n low)

no_text : (n : ℕ) (rest : List ℕ) → ((text behind : List ℕ) → rest ≡ text ++ behind → length text ≡ n → ¬ IsUtf8 text) → text_place n rest ≡ 5
no_text n rest none =
    cond-false (nat_le n (length rest) && is_utf8 (take n rest)) _ _ (false_from_ne_true _ (λ e.
    let h = and_parts (nat_le n (length rest)) (is_utf8 (take n rest)) e in
    none (take n rest) (drop n rest) (sym (take-append-drop n rest)) (length-take-le n rest (leb-true n (length rest) h.0))
    (IsUtf8-from_is_utf8 (take n rest) h.1)))

some_text : (text rest : List ℕ) → IsUtf8 text → text_place (length text) (text ++ rest) ≡ 5 + length text
some_text text rest utf8 =
    let long = length-append text rest in
    let whole : take (length text) (text ++ rest) ≡ text = take_at text rest (length text) refl in
    cond-true (nat_le (length text) (length (text ++ rest)) && is_utf8 (take (length text) (text ++ rest))) _ _
    (and_from (nat_le (length text) (length (text ++ rest))) (is_utf8 (take (length text) (text ++ rest)))
    (le-leb (length text) (length (text ++ rest)) (omega arith)) (ap is_utf8 whole ∙ is_utf8-from_IsUtf8 text utf8))

-- behind a form
at_rest : (b : ℕ) (text rest : List ℕ) → HasForm b → IsForm text → place_of ((b ∷ counted text) ++ rest) ≡ length (b ∷ counted text)
at_rest b text rest has is =
    let count : 5 + length text ≡ length (b ∷ counted text) = omega arith in
    ap (λ l. place_of (b ∷ l)) (append_assoc (to_be_bytes w32 (length text)) text rest)
    ∙ at_text b (length text) (text ++ rest) has is.short ∙ some_text text rest is.utf8 ∙ count

at_label : (time rest : List ℕ) → length time ≡ 8 → place_of ((4 ∷ time) ++ rest) ≡ length (4 ∷ time)
at_label time rest long =
    let whole = length-append time rest in
    let count : 9 ≡ length (4 ∷ time) = omega arith in
    cond-false (nat_lt (length (time ++ rest)) 8) _ _ (le-ltb (length (time ++ rest)) 8 (omega arith)) ∙ count

-- the place behind a front that is known
known : (front other rest : List ℕ) → front ≡ other → place_of (other ++ rest) ≡ length other → place_of (front ++ rest) ≡ length front
known front other rest same e = ap (λ f. place_of (f ++ rest)) same ∙ e ∙ ap length (sym same)

place_is : (front rest : List ℕ) → BreaksRule front rest → place_of (front ++ rest) ≡ length front
place_is front rest (wrong_kind nothing none) = known front [] rest nothing (at_kind rest none)
place_is front rest (wrong_iri one isnt) = known front (1 ∷ []) rest one refl
place_is front rest (short_length b has one short) = known front (b ∷ []) rest one (at_length b rest has short)
place_is front rest (wrong_form b n has low is_front none) =
    known front (b ∷ to_be_bytes w32 n) rest is_front (at_text b n rest has low ∙ no_text n rest none)
place_is front rest (wrong_datatype text good is_front isnt) = known front (2 ∷ counted text) rest is_front (at_rest 2 text rest (inl refl) good)
place_is front rest (wrong_tag text good is_front isnt) = known front (3 ∷ counted text) rest is_front (at_rest 3 text rest (inr refl) good)
place_is front rest (short_time one short) =
    known front (4 ∷ []) rest one (cond-true (nat_lt (length rest) 8) _ _ (lt-ltb (length rest) 8 short))
place_is front rest (wrong_label time long is_front isnt) = known front (4 ∷ time) rest is_front (at_label time rest long)

-- the offset of the first bad field is one
pub bad_place_same : (bytes : List ℕ) (one other : ℕ) → IsFirstBadField bytes one → IsFirstBadField bytes other → one ≡ other
bad_place_same bytes one other p q =
    p.place ∙ sym (place_is p.front p.rest p.broken) ∙ ap place_of (sym p.cut ∙ q.cut) ∙ place_is q.front q.rest q.broken ∙ sym q.place
