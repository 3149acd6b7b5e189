-- Private: terms as keys of a hashed set: their equality as a test, and what a hasher is fed.
use Rattle.std.proofs.Common.{◌≡◌, ℕ, Bool, true, false, List, ◌++◌, refl, sym, ap, subst, Decides}
use Rattle.std.proofs.lemmas.Bool.{false≢true}
use Rattle.std.proofs.lemmas.Bool.Decides.{Decides-eqb, Decides-and}
use Rattle.std.proofs.lemmas.Slice.Eq.{bytes_eq-Decides}
use Rattle.std.specs.Cmp.{IsEquivalence}
use Rattle.std.specs.Hash.{HashWrites}
use Rattle.std.specs.Hash as fed
use Rattle.term_core.specs.declared.term.Term.{Term}
use Rattle.term_core.specs.declared.term.Term.TheVariants.{Iri, Literal, Tagged, Blank}
use Rattle.change_model.specs.Lexicon.{same_text, same_term}

-- the writes of a term: its parts
abbrev pub term_writes : Term → HashWrites
term_writes (Iri iri) = fed.str iri
term_writes (Literal form datatype) = fed.str form ++ fed.str datatype
term_writes (Tagged form tag) = fed.str form ++ fed.str tag
term_writes (Blank at label) = fed.u64 at ++ fed.str label

-- what the test calls the same is the same
same_term-exact : (a b : Term) → same_term a b ≡ true → a ≡ b
same_term-exact (Iri iri) (Iri other) e = ap Iri ((bytes_eq-Decides iri other).0 e)
same_term-exact (Iri iri) (Literal form datatype) e = absurd (false≢true e)
same_term-exact (Iri iri) (Tagged form tag) e = absurd (false≢true e)
same_term-exact (Iri iri) (Blank at label) e = absurd (false≢true e)
same_term-exact (Literal form datatype) (Iri iri) e = absurd (false≢true e)
same_term-exact (Literal form datatype) (Literal text other) e =
    let both = (Decides-and _ _ (bytes_eq-Decides form text) (bytes_eq-Decides datatype other)).0 e in
    λ i. Literal (both.0 i) (both.1 i)
same_term-exact (Literal form datatype) (Tagged text tag) e = absurd (false≢true e)
same_term-exact (Literal form datatype) (Blank at label) e = absurd (false≢true e)
same_term-exact (Tagged form tag) (Iri iri) e = absurd (false≢true e)
same_term-exact (Tagged form tag) (Literal text datatype) e = absurd (false≢true e)
same_term-exact (Tagged form tag) (Tagged text other) e =
    let both = (Decides-and _ _ (bytes_eq-Decides form text) (bytes_eq-Decides tag other)).0 e in
    λ i. Tagged (both.0 i) (both.1 i)
same_term-exact (Tagged form tag) (Blank at label) e = absurd (false≢true e)
same_term-exact (Blank at label) (Iri iri) e = absurd (false≢true e)
same_term-exact (Blank at label) (Literal form datatype) e = absurd (false≢true e)
same_term-exact (Blank at label) (Tagged form tag) e = absurd (false≢true e)
same_term-exact (Blank at label) (Blank time other) e =
    let both = (Decides-and _ _ (Decides-eqb at time) (bytes_eq-Decides label other)).0 e in
    λ i. Blank (both.0 i) (both.1 i)

same_term-itself : (a : Term) → same_term a a ≡ true
same_term-itself (Iri iri) = (bytes_eq-Decides iri iri).1 refl
same_term-itself (Literal form datatype) = (Decides-and _ _ (bytes_eq-Decides form form) (bytes_eq-Decides datatype datatype)).1 (refl, refl)
same_term-itself (Tagged form tag) = (Decides-and _ _ (bytes_eq-Decides form form) (bytes_eq-Decides tag tag)).1 (refl, refl)
same_term-itself (Blank at label) = (Decides-and _ _ (Decides-eqb at at) (bytes_eq-Decides label label)).1 (refl, refl)

-- the test tells equality
pub same_term-Decides : (a b : Term) → Decides (same_term a b) (a ≡ b)
same_term-Decides a b = (same_term-exact a b, λ same. subst (λ (t : Term). same_term a t ≡ true) same (same_term-itself a))

-- two tests of facts that imply each other agree
agree : {P Q : Type 0} → (one other : Bool) → Decides one P → Decides other Q → (P → Q) → (Q → P) → one ≡ other
agree true true d e f g = refl
agree true false d e f g = absurd (false≢true (e.1 (f (d.0 refl))))
agree false true d e f g = absurd (false≢true (d.1 (g (e.0 refl))))
agree false false d e f g = refl

pub same_term-equiv : IsEquivalence same_term
same_term-equiv = record {
  refl = same_term-itself;
  symm = λ x y. agree (same_term x y) (same_term y x) (same_term-Decides x y) (same_term-Decides y x) (λ e. sym e) (λ e. sym e);
  congr = λ x y z e. ap (λ t. same_term t z) (same_term-exact x y e);
}

-- equal terms are written alike, and so are equal labels
pub same_term-writes : (a b : Term) → same_term a b ≡ true → term_writes a ≡ term_writes b
same_term-writes a b e = ap term_writes (same_term-exact a b e)

pub same_label-writes : (a b : List ℕ) → same_text a b ≡ true → fed.str a ≡ fed.str b
same_label-writes a b e = ap fed.str ((bytes_eq-Decides a b).0 e)
