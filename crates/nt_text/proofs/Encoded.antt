-- Characters tested by their bytes, by a test that lets each byte beyond ASCII through.
use Rattle.std.proofs.Common.{◌≡◌, ℕ, ◌≤◌, Bool, true, List, [], ◌∷◌, ◌++◌, get_or, refl, sym, ap, subst, ◌∙◌, inl, inr}
use Rattle.std.specs.List.{list_all}
use Rattle.std.specs.Char.{encode_utf8}
use Rattle.std.specs.Str.{IsUtf8, chars, encode_utf8_all}
use Rattle.std.proofs.lemmas.Bool.{and_parts, and_from, cases_lt}
use Rattle.std.proofs.lemmas.List.{append-nil}
use Rattle.std.proofs.lemmas.List.Recursion.{and_from_places}
use Rattle.std.proofs.lemmas.Str.{inside_one, encode_ascii, chars-encodes}

abbrev pub PassesHigh : (ℕ → Bool) → Type 0
PassesHigh test = (b : ℕ) → 128 ≤ b → test b ≡ true

pub all_append : (test : ℕ → Bool) (xs ys : List ℕ) → list_all test xs ≡ true → list_all test ys ≡ true → list_all test (xs ++ ys) ≡ true
all_append test [] ys p q = q
all_append test (x ∷ xs) ys p q =
    let h = and_parts (test x) (list_all test xs) p in
    and_from (test x) (list_all test (xs ++ ys)) h.0 (all_append test xs ys h.1 q)

pub all_parts : (test : ℕ → Bool) (xs ys : List ℕ) → list_all test (xs ++ ys) ≡ true → (list_all test xs ≡ true) × (list_all test ys ≡ true)
all_parts test [] ys p = (refl, p)
all_parts test (x ∷ xs) ys p =
    let h = and_parts (test x) (list_all test (xs ++ ys)) p in
    let rest = all_parts test xs ys h.1 in
    (and_from (test x) (list_all test xs) h.0 rest.0, rest.1)

-- the bytes of a character
pub encode_passes : (test : ℕ → Bool) → PassesHigh test → (c : ℕ) → test c ≡ true → list_all test (encode_utf8 c) ≡ true
encode_passes test high c h =
    and_from_places (list_all test) test refl (λ x xs. refl) (encode_utf8 c) 0 (λ i lt.
    elim (cases_lt (get_or (encode_utf8 c) i 0) 128) [
      | inl low ↦ subst (λ (b : ℕ). test b ≡ true) (inside_one c [] (encode_utf8 c) i (sym (append-nil (encode_utf8 c))) lt low) h
      | inr above ↦ high (get_or (encode_utf8 c) i 0) above
    ])

encode_back : (test : ℕ → Bool) → PassesHigh test → (c : ℕ) → list_all test (encode_utf8 c) ≡ true → test c ≡ true
encode_back test high c h =
    elim (cases_lt c 128) [
      | inl low ↦ (and_parts (test c) true (subst (λ (bs : List ℕ). list_all test bs ≡ true) (encode_ascii c low) h)).0
      | inr above ↦ high c above
    ]

characters_pass : (test : ℕ → Bool) → PassesHigh test → (cs : List ℕ) → list_all test (encode_utf8_all cs) ≡ true → list_all test cs ≡ true
characters_pass test high [] h = refl
characters_pass test high (c ∷ cs) h =
    let parts = all_parts test (encode_utf8 c) (encode_utf8_all cs) h in
    and_from (test c) (list_all test cs) (encode_back test high c parts.0) (characters_pass test high cs parts.1)

bytes_pass : (test : ℕ → Bool) → PassesHigh test → (cs : List ℕ) → list_all test cs ≡ true → list_all test (encode_utf8_all cs) ≡ true
bytes_pass test high [] h = refl
bytes_pass test high (c ∷ cs) h =
    let parts = and_parts (test c) (list_all test cs) h in
    all_append test (encode_utf8 c) (encode_utf8_all cs) (encode_passes test high c parts.0) (bytes_pass test high cs parts.1)

-- text whose bytes pass has characters that pass
pub chars_pass : (test : ℕ → Bool) → PassesHigh test → (text : List ℕ) → IsUtf8 text → list_all test text ≡ true → list_all test (chars text) ≡ true
chars_pass test high text utf8 h =
    let same : chars text ≡ utf8.0 = ap chars (sym utf8.1.1) ∙ chars-encodes utf8.0 utf8.1.0 in
    let each : list_all test utf8.0 ≡ true = characters_pass test high utf8.0 (subst (λ (bs : List ℕ). list_all test bs ≡ true) (sym utf8.1.1) h) in
    subst (λ (cs : List ℕ). list_all test cs ≡ true) (sym same) each

-- and the other way
pub text_passes : (test : ℕ → Bool) → PassesHigh test → (text : List ℕ) → IsUtf8 text → list_all test (chars text) ≡ true → list_all test text ≡ true
text_passes test high text utf8 h =
    let same : chars text ≡ utf8.0 = ap chars (sym utf8.1.1) ∙ chars-encodes utf8.0 utf8.1.0 in
    let each : list_all test utf8.0 ≡ true = subst (λ (cs : List ℕ). list_all test cs ≡ true) same h in
    subst (λ (bs : List ℕ). list_all test bs ≡ true) utf8.1.1 (bytes_pass test high utf8.0 each)
