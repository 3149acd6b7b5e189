-- Text and numbers are made of bytes.
use Rattle.std.proofs.Common.{◌≡◌, ℕ, ◌<◌, true, ltb, List, [], ◌∷◌, ◌++◌, subst, inl, inr, arith}
use lib.Utf8.{encode, encodes, scalar, scalars, scalar_cases}
use Rattle.std.specs.Int.{w32, w64, to_be_bytes}
use Rattle.std.specs.List.{AllByRecursion}
use Rattle.std.specs.Str.{IsUtf8}
use Rattle.std.proofs.lemmas.Bool.{and_parts, cond_both, ltb-true}

abbrev pub AreBytes : List ℕ → Type 0
AreBytes bytes = AllByRecursion (λ b. b < 256) bytes

pub AreBytes-append : (xs ys : List ℕ) → AreBytes xs → AreBytes ys → AreBytes (xs ++ ys)
AreBytes-append [] ys p q = q
AreBytes-append (x ∷ xs) ys p q = (p.0, AreBytes-append xs ys p.1 q)

scalar_low : (c : ℕ) → scalar c ≡ true → c < 1114112
scalar_low c e = elim (scalar_cases c e) [ inl h ↦ omega arith | inr h ↦ h.1 ]

encode_bytes : (c : ℕ) → c < 1114112 → AreBytes (encode c)
unfolding encode
encode_bytes c low =
    cond_both (ltb c 128) _ _ AreBytes (λ e. let h = ltb-true c 128 e in (omega arith, tt)) (λ e.
    cond_both (ltb c 2048) _ _ AreBytes (λ f. let h = ltb-true c 2048 f in (omega arith, (omega arith, tt))) (λ f.
    cond_both (ltb c 65536) _ _ AreBytes (λ g. let h = ltb-true c 65536 g in (omega arith, (omega arith, (omega arith, tt)))) (λ g.
    (omega arith, (omega arith, (omega arith, (omega arith, tt)))))))

encodes_bytes : (cs : List ℕ) → scalars cs ≡ true → AreBytes (encodes cs)
encodes_bytes [] e = tt
encodes_bytes (c ∷ cs) e =
    let h = and_parts (scalar c) (scalars cs) e in
    AreBytes-append (encode c) (encodes cs) (encode_bytes c (scalar_low c h.0)) (encodes_bytes cs h.1)

pub AreBytes-utf8 : (text : List ℕ) → IsUtf8 text → AreBytes text
AreBytes-utf8 text utf8 = subst AreBytes utf8.1.1 (encodes_bytes utf8.0 utf8.1.0)

pub AreBytes-length : (n : ℕ) → AreBytes (to_be_bytes w32 n)
AreBytes-length n = (omega arith, (omega arith, (omega arith, (omega arith, tt))))

pub AreBytes-time : (n : ℕ) → AreBytes (to_be_bytes w64 n)
AreBytes-time n = (omega arith, (omega arith, (omega arith, (omega arith, (omega arith, (omega arith, (omega arith, (omega arith, tt))))))))
