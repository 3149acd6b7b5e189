-- Laws of the spelling of terms. A spelling belongs to one term, and is made of bytes.
use Rattle.std.proofs.Common.{◌≡◌, ℕ, ◌<◌, ◌^◌, List, [], ◌∷◌, ◌++◌, length, take, drop, get_or, refl, sym, ap, ◌∙◌, append_assoc, arith}
use Rattle.std.specs.Int.{w32, w64, to_be_bytes, from_be_bytes}
use Rattle.std.proofs.lemmas.List.{take_at, drop_at}
use Rattle.std.proofs.lemmas.Nat.{from_be_bytes-to_be_bytes_4, from_be_bytes-to_be_bytes_8}
use Rattle.term_core.specs.declared.term.Term.{Term}
use Rattle.term_core.specs.declared.term.Term.TheVariants.{Iri, Literal, Tagged, Blank}
use Rattle.term_core.specs.Term.{IsTerm, IsForm}
use Rattle.term_core.specs.Spelling.{counted, spelling, HasShortForm}
use Rattle.term_core.proofs.Bytes.{AreBytes, AreBytes-append, AreBytes-utf8, AreBytes-length, AreBytes-time}
use Rattle.term_core.proofs.Tags.{IsUtf8-tag}

pub first_same : (b c : ℕ) (xs ys : List ℕ) → b ∷ xs ≡ c ∷ ys → b ≡ c
first_same b c xs ys e = ap (λ l. get_or l 0 0) e

abbrev tail_of : List ℕ → List ℕ
tail_of [] = []
tail_of (x ∷ xs) = xs

pub rest_same : (b c : ℕ) (xs ys : List ℕ) → b ∷ xs ≡ c ∷ ys → xs ≡ ys
rest_same b c xs ys e = ap tail_of e

-- two lists in two parts, the first ones of one length
pub parts_same : (xs ys us vs : List ℕ) → length xs ≡ length ys → xs ++ us ≡ ys ++ vs → (xs ≡ ys) × (us ≡ vs)
parts_same xs ys us vs long e = (
  sym (take_at xs us (length ys) long) ∙ ap (take (length ys)) e ∙ take_at ys vs (length ys) refl,
  sym (drop_at xs us (length ys) long) ∙ ap (drop (length ys)) e ∙ drop_at ys vs (length ys) refl,
)

-- a counted text tells where it ends
pub counted_same : (form text us vs : List ℕ) → length form < 2 ^ 32 → length text < 2 ^ 32 → counted form ++ us ≡ counted text ++ vs
    → (form ≡ text) × (us ≡ vs)
counted_same form text us vs short low e =
    let split = append_assoc (to_be_bytes w32 (length form)) form us in
    let outer : to_be_bytes w32 (length form) ++ (form ++ us) ≡ to_be_bytes w32 (length text) ++ (text ++ vs) =
    sym split ∙ e ∙ append_assoc (to_be_bytes w32 (length text)) text vs in
    let heads = parts_same (to_be_bytes w32 (length form)) (to_be_bytes w32 (length text)) (form ++ us) (text ++ vs) refl outer in
    let long : length form ≡ length text =
    sym (from_be_bytes-to_be_bytes_4 (length form) short) ∙ ap (from_be_bytes w32) heads.0 ∙ from_be_bytes-to_be_bytes_4 (length text) low in
    parts_same form text us vs long heads.1

-- and so does a time
pub timed_same : (one other : ℕ) (us vs : List ℕ) → one < 2 ^ 64 → other < 2 ^ 64 → to_be_bytes w64 one ++ us ≡ to_be_bytes w64 other ++ vs
    → (one ≡ other) × (us ≡ vs)
timed_same one other us vs low small e =
    let parts = parts_same (to_be_bytes w64 one) (to_be_bytes w64 other) us vs refl e in (
      sym (from_be_bytes-to_be_bytes_8 one low) ∙ ap (from_be_bytes w64) parts.0 ∙ from_be_bytes-to_be_bytes_8 other small,
      parts.1,
    )

-- Two terms that keep the rules and have one spelling are the same.
pub spelling_same : (a b : Term) → IsTerm a → IsTerm b → spelling a ≡ spelling b → a ≡ b
spelling_same (Iri iri) (Iri other) p q e = ap Iri (rest_same 1 1 iri other e)
spelling_same (Iri iri) (Literal form datatype) p q e = let k = first_same 1 2 _ _ e in absurd (omega arith)
spelling_same (Iri iri) (Tagged form tag) p q e = let k = first_same 1 3 _ _ e in absurd (omega arith)
spelling_same (Iri iri) (Blank at label) p q e = let k = first_same 1 4 _ _ e in absurd (omega arith)
spelling_same (Literal form datatype) (Iri iri) p q e = let k = first_same 2 1 _ _ e in absurd (omega arith)
spelling_same (Literal form datatype) (Literal text other) p q e =
    let same = counted_same form text datatype other p.0.short q.0.short (rest_same 2 2 _ _ e) in
    ap (λ f. Literal f datatype) same.0 ∙ ap (Literal text) same.1
spelling_same (Literal form datatype) (Tagged text tag) p q e = let k = first_same 2 3 _ _ e in absurd (omega arith)
spelling_same (Literal form datatype) (Blank at label) p q e = let k = first_same 2 4 _ _ e in absurd (omega arith)
spelling_same (Tagged form tag) (Iri iri) p q e = let k = first_same 3 1 _ _ e in absurd (omega arith)
spelling_same (Tagged form tag) (Literal text datatype) p q e = let k = first_same 3 2 _ _ e in absurd (omega arith)
spelling_same (Tagged form tag) (Tagged text other) p q e =
    let same = counted_same form text tag other p.0.short q.0.short (rest_same 3 3 _ _ e) in
    ap (λ f. Tagged f tag) same.0 ∙ ap (Tagged text) same.1
spelling_same (Tagged form tag) (Blank at label) p q e = let k = first_same 3 4 _ _ e in absurd (omega arith)
spelling_same (Blank at label) (Iri iri) p q e = let k = first_same 4 1 _ _ e in absurd (omega arith)
spelling_same (Blank at label) (Literal form datatype) p q e = let k = first_same 4 2 _ _ e in absurd (omega arith)
spelling_same (Blank at label) (Tagged form tag) p q e = let k = first_same 4 3 _ _ e in absurd (omega arith)
spelling_same (Blank at label) (Blank time other) p q e =
    let same = timed_same at time label other p.0 q.0 (rest_same 4 4 _ _ e) in
    ap (λ t. Blank t label) same.0 ∙ ap (Blank time) same.1

AreBytes-counted : (form : List ℕ) → IsForm form → AreBytes (counted form)
AreBytes-counted form is = AreBytes-append (to_be_bytes w32 (length form)) form (AreBytes-length (length form)) (AreBytes-utf8 form is.utf8)

-- The form of such a term is short, as `encode` requires.
pub HasShortForm-from_IsTerm : (term : Term) → IsTerm term → HasShortForm term
HasShortForm-from_IsTerm (Iri iri) is = tt
HasShortForm-from_IsTerm (Literal form datatype) is = is.0.short
HasShortForm-from_IsTerm (Tagged form tag) is = is.0.short
HasShortForm-from_IsTerm (Blank at label) is = tt

-- and its spelling is made of bytes
pub AreBytes-spelling : (term : Term) → IsTerm term → AreBytes (spelling term)
AreBytes-spelling (Iri iri) is = (omega arith, AreBytes-utf8 iri is.utf8)
AreBytes-spelling (Literal form datatype) is = (omega arith, AreBytes-append (counted form) datatype (AreBytes-counted form is.0) (AreBytes-utf8 datatype is.1.utf8))
AreBytes-spelling (Tagged form tag) is = (omega arith, AreBytes-append (counted form) tag (AreBytes-counted form is.0) (AreBytes-utf8 tag (IsUtf8-tag tag is.1)))
AreBytes-spelling (Blank at label) is = (omega arith, AreBytes-append (to_be_bytes w64 at) label (AreBytes-time at) (AreBytes-utf8 label is.1.utf8))
