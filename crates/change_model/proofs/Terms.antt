-- Equality of terms and statements as a test, and what binding the labels of a change keeps.
use Rattle.std.proofs.Common.{◌≡◌, ℕ, ◌<◌, ◌^◌, Bool, true, false, List, [], ◌∷◌, ◌⊎◌, inl, inr, refl, sym, ap, subst, Decides}
use Rattle.std.proofs.lemmas.Bool.{false≢true}
use Rattle.std.proofs.lemmas.Bool.Decides.{Decides-or, Decides-like}
use Rattle.std.specs.List.{list_any}
use Rattle.term_core.specs.declared.term.Term.{Term}
use Rattle.term_core.specs.declared.term.Term.TheVariants.{Iri, Literal, Tagged, Blank}
use Rattle.term_core.specs.declared.statement.Statement.{Statement}
use Rattle.base_core.specs.Lists.{Has}
use Rattle.term_core.specs.Term.{IsTerm, MayBeSubject, MayBePredicate, IsStatement}
use Rattle.change_model.specs.History.{bound_term, bound_at}
use Rattle.change_model.specs.Lexicon.{same_term, terms_of}
use Rattle.change_model.specs.TermKeys.{same_term-Decides}

never : {P : Type 0} → (P → ⊥) → Decides false P
never none = (λ e. absurd (false≢true e), λ p. absurd (none p))

told_by : {P : Type 0} → (t : Bool) → Decides t P → P ⊎ (P → ⊥)
told_by true d = inl (d.0 refl)
told_by false d = inr (λ p. false≢true (d.1 p))

pub term-told : (a b : Term) → (a ≡ b) ⊎ (a ≡ b → ⊥)
term-told a b = told_by (same_term a b) (same_term-Decides a b)

-- a statement by its terms
pub same_statement : (a b : Statement) → a.subject ≡ b.subject → a.predicate ≡ b.predicate → a.object ≡ b.object → a ≡ b
same_statement a b s p o = λ i. record { subject = s i; predicate = p i; object = o i }

pub statement-told : (a b : Statement) → (a ≡ b) ⊎ (a ≡ b → ⊥)
statement-told a b =
    elim (term-told a.subject b.subject) [
      | inr other ↦ inr (λ e. other (ap (λ (s : Statement). s.subject) e))
      | inl s ↦ elim (term-told a.predicate b.predicate) [
        | inr other ↦ inr (λ e. other (ap (λ (s : Statement). s.predicate) e))
        | inl p ↦ elim (term-told a.object b.object) [
          | inr other ↦ inr (λ e. other (ap (λ (s : Statement). s.object) e))
          | inl o ↦ inl (same_statement a b s p o)
        ]
      ]
    ]

-- the test of a whole list tells whether the term stands there
pub list_any-Decides : (term : Term) (known : List Term) → Decides (list_any (same_term term) known) (Has known term)
list_any-Decides term [] = never (λ h. h)
list_any-Decides term (first ∷ known) =
    Decides-like _
    (λ h. elim h [ inl same ↦ inl (sym same) | inr more ↦ inr more ])
    (λ h. elim h [ inl same ↦ inl (sym same) | inr more ↦ inr more ])
    (Decides-or _ _ (same_term-Decides term first) (list_any-Decides term known))

-- the terms of statements
pub record AreTermsOf (terms : List Term) (statement : Statement) : Type 0 where
  pub subject : Has terms statement.subject
  pub predicate : Has terms statement.predicate
  pub object : Has terms statement.object

pub AreTermsOf-each : (statements : List Statement) (statement : Statement) → Has statements statement → AreTermsOf (terms_of statements) statement
AreTermsOf-each [] statement h = absurd h
AreTermsOf-each (first ∷ statements) statement (inl same) = record {
  subject = inl (ap (λ (s : Statement). s.subject) same);
  predicate = inr (inl (ap (λ (s : Statement). s.predicate) same));
  object = inr (inr (inl (ap (λ (s : Statement). s.object) same)));
}
AreTermsOf-each (first ∷ statements) statement (inr more) =
    let rest = AreTermsOf-each statements statement more in
    record { subject = inr (inr (inr rest.subject)); predicate = inr (inr (inr rest.predicate)); object = inr (inr (inr rest.object)) }

-- what holds of the three terms of each statement holds of each of the terms
pub terms_of-each : (P : Term → Type 0) (statements : List Statement)
    → ((statement : Statement) → Has statements statement → P statement.subject × P statement.predicate × P statement.object)
    → (term : Term) → Has (terms_of statements) term → P term
terms_of-each P [] all term h = absurd h
terms_of-each P (first ∷ statements) all term (inl same) = subst P same (all first (inl refl)).0
terms_of-each P (first ∷ statements) all term (inr (inl same)) = subst P same (all first (inl refl)).1
terms_of-each P (first ∷ statements) all term (inr (inr (inl same))) = subst P same (all first (inl refl)).2
terms_of-each P (first ∷ statements) all term (inr (inr (inr more))) = terms_of-each P statements (λ s h. all s (inr h)) term more

-- a bound term keeps the rules
pub IsTerm-bound : (time : ℕ) (term : Term) → time < 2 ^ 64 → IsTerm term → IsTerm (bound_term time term)
IsTerm-bound time (Iri iri) small is = is
IsTerm-bound time (Literal form datatype) small is = is
IsTerm-bound time (Tagged form tag) small is = is
IsTerm-bound time (Blank at label) small is = (small, is.1)

MayBeSubject-bound : (time : ℕ) (term : Term) → MayBeSubject term → MayBeSubject (bound_term time term)
MayBeSubject-bound time (Iri iri) may = may
MayBeSubject-bound time (Literal form datatype) may = may
MayBeSubject-bound time (Tagged form tag) may = may
MayBeSubject-bound time (Blank at label) may = may

MayBePredicate-bound : (time : ℕ) (term : Term) → MayBePredicate term → MayBePredicate (bound_term time term)
MayBePredicate-bound time (Iri iri) may = may
MayBePredicate-bound time (Literal form datatype) may = may
MayBePredicate-bound time (Tagged form tag) may = may
MayBePredicate-bound time (Blank at label) may = may

-- and so does a bound statement
pub IsStatement-bound : (time : ℕ) (statement : Statement) → time < 2 ^ 64 → IsStatement statement → IsStatement (bound_at time statement)
IsStatement-bound time statement small is = record {
  subject = IsTerm-bound time statement.subject small is.subject;
  subject_kind = MayBeSubject-bound time statement.subject is.subject_kind;
  predicate = IsTerm-bound time statement.predicate small is.predicate;
  predicate_kind = MayBePredicate-bound time statement.predicate is.predicate_kind;
  object = IsTerm-bound time statement.object small is.object;
}
