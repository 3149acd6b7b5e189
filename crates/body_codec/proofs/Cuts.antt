-- A field tells where it ends, and so do many: two cuts of the same bytes agree as far as both go.
use Rattle.std.proofs.Common.{◌≡◌, ℕ, ◌<◌, ◌≤◌, ◌^◌, List, [], ◌∷◌, ◌++◌, length, refl, sym, ◌∙◌, ap, append_assoc, arith}
use Rattle.std.specs.Int.{w32, from_be_bytes}
use Rattle.base_core.specs.Numbers.{length_bytes}
use Rattle.std.specs.List.{flat_map, AllByRecursion}
use Rattle.std.proofs.lemmas.Nat.{from_be_bytes-to_be_bytes_4}
use Rattle.std.proofs.lemmas.Option.{slice_get_within}
use Rattle.term_core.specs.declared.term.Term.{Term}
use Rattle.term_core.specs.Spelling.{spelling}
use Rattle.term_core.proofs.Spelling.{parts_same, spelling_same}
use Rattle.change_model.specs.declared.history.Kind.{Kind}
use Rattle.change_model.specs.declared.history.Kind.TheVariants.{Add, Remove}
use Rattle.change_model.specs.declared.vocabulary.Places.{Places}
use Rattle.body_codec.specs.Body.{kind_byte, term_field, statement_field, IsTermOf, NamesA, NameTerms, ArePlacings, numbers}
use Rattle.body_codec.specs.Reading.{AreSmall}

pub number_same : (one other : ℕ) (us vs : List ℕ) → one < 2 ^ 32 → other < 2 ^ 32 → length_bytes one ++ us ≡ length_bytes other ++ vs
    → (one ≡ other) × (us ≡ vs)
number_same one other us vs low small e =
    let parts = parts_same (length_bytes one) (length_bytes other) us vs refl e in (
      sym (from_be_bytes-to_be_bytes_4 one low) ∙ ap (from_be_bytes w32) parts.0 ∙ from_be_bytes-to_be_bytes_4 other small,
      parts.1,
    )

pub term_same : (kind : Kind) (one other : Term) (us vs : List ℕ) → IsTermOf kind one → IsTermOf kind other → term_field one ++ us ≡ term_field other ++ vs
    → (one ≡ other) × (us ≡ vs)
term_same kind one other us vs is also e =
    let outer : length_bytes (length (spelling one)) ++ (spelling one ++ us) ≡ length_bytes (length (spelling other)) ++ (spelling other ++ vs) =
    sym (append_assoc (length_bytes (length (spelling one))) (spelling one) us) ∙ e ∙ append_assoc (length_bytes (length (spelling other))) (spelling other) vs in
    let size = number_same _ _ (spelling one ++ us) (spelling other ++ vs) is.short also.short outer in
    let parts = parts_same (spelling one) (spelling other) us vs size.0 size.1 in
    (spelling_same one other is.is also.is parts.0, parts.1)

-- places by their three numbers
pub same_places : (one other : Places) → one.subject ≡ other.subject → one.predicate ≡ other.predicate → one.object ≡ other.object → one ≡ other
same_places one other s p o = λ i. record { subject = s i; predicate = p i; object = o i }

pub statement_same : (one other : Places) (us vs : List ℕ) → AreSmall one → AreSmall other → statement_field one ++ us ≡ statement_field other ++ vs
    → (one ≡ other) × (us ≡ vs)
statement_same one other us vs small low e =
    let s = number_same one.subject other.subject _ _ small.subject low.subject e in
    let p = number_same one.predicate other.predicate _ _ small.predicate low.predicate s.1 in
    let o = number_same one.object other.object us vs small.object low.object p.1 in
    (same_places one other s.0 p.0 o.0, o.1)

NamesA-small : (May : Term → Type 0) (terms : List Term) (place : ℕ) → length terms < 2 ^ 32 → NamesA May terms place → place < 2 ^ 32
NamesA-small May terms place fits names = let below = slice_get_within terms place names.0 names.1 in omega arith

pub NameTerms-small : (terms : List Term) (places : Places) → length terms < 2 ^ 32 → NameTerms terms places → AreSmall places
NameTerms-small terms places fits names = record {
  subject = NamesA-small _ terms places.subject fits names.subject;
  predicate = NamesA-small _ terms places.predicate fits names.predicate;
  object = NamesA-small _ terms places.object fits names.object;
}

pub ArePlacings-small : (terms : List Term) (before : List ℕ) (placed : List Places) → length terms < 2 ^ 32 → ArePlacings terms before placed
    → AllByRecursion AreSmall placed
ArePlacings-small terms before [] fits are = tt
ArePlacings-small terms before (places ∷ placed) fits are =
    (NameTerms-small terms places fits are.0.names, ArePlacings-small terms (before ++ numbers places) placed fits are.1)

pub kind_same : (one other : Kind) → kind_byte one ≡ kind_byte other → one ≡ other
kind_same Add Add e = refl
kind_same Add Remove e = absurd (omega arith)
kind_same Remove Add e = absurd (omega arith)
kind_same Remove Remove e = refl

-- ---- many fields

-- the first list is a front of the second, and what was left behind it has the fields of the others
pub record AreFront {A : Type 0} (f : A → List ℕ) (xs ys : List A) (us vs : List ℕ) : Type 0 where
  pub more : List A
  pub split : ys ≡ xs ++ more
  pub rest : us ≡ flat_map f more ++ vs

pub fields_cut : {A : Type 0} (f : A → List ℕ) (P : A → Type 0)
    → ((a b : A) (us vs : List ℕ) → P a → P b → f a ++ us ≡ f b ++ vs → (a ≡ b) × (us ≡ vs))
    → (xs ys : List A) (us vs : List ℕ) → AllByRecursion P xs → AllByRecursion P ys → length xs ≤ length ys
    → flat_map f xs ++ us ≡ flat_map f ys ++ vs → AreFront f xs ys us vs
fields_cut f P same [] ys us vs all each long e = record { more = ys; split = refl; rest = e }
fields_cut f P same (x ∷ xs) [] us vs all each long e = absurd (omega arith)
fields_cut f P same (x ∷ xs) (y ∷ ys) us vs all each long e =
    let outer : f x ++ (flat_map f xs ++ us) ≡ f y ++ (flat_map f ys ++ vs) =
    sym (append_assoc (f x) (flat_map f xs) us) ∙ e ∙ append_assoc (f y) (flat_map f ys) vs in
    let one = same x y (flat_map f xs ++ us) (flat_map f ys ++ vs) all.0 each.0 outer in
    let rest = fields_cut f P same xs ys us vs all.1 each.1 (omega arith) one.1 in
    record {
      more = rest.more;
      split = ap (λ l. y ∷ l) rest.split ∙ ap (λ a. a ∷ (xs ++ rest.more)) (sym one.0);
      rest = rest.rest;
    }
