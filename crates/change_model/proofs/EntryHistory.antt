-- The lexicon of a history with one more change, by the change's vocabulary.
use Rattle.std.proofs.Common.{◌≡◌, ℕ, zero, suc, ◌<◌, ◌≤◌, ◌^◌, List, [], ◌∷◌, ◌++◌, map, length, Option, Some, None, ◌⊎◌, inl, inr, refl, sym, ◌∙◌, ap, subst, arith}
use Rattle.std.specs.List.{slice_get, AllByRecursion}
use Rattle.std.proofs.lemmas.List.{map-append}
use Rattle.term_core.specs.declared.term.Term.{Term}
use Rattle.term_core.specs.declared.term.Term.TheVariants.{Iri, Literal, Tagged, Blank}
use Rattle.term_core.specs.declared.statement.Statement.{Statement}
use Rattle.base_core.specs.Lists.{Has}
use Rattle.term_core.specs.Term.{IsTerm, IsStatement}
use Rattle.change_model.specs.declared.history.Kind.{Kind}
use Rattle.change_model.specs.declared.history.Kind.TheVariants.{Add, Remove}
use Rattle.change_model.specs.declared.history.Committed.{Committed}
use Rattle.change_model.specs.History.{History, bound_term, bound_at}
use Rattle.change_model.specs.Lexicon.{with_term, with_terms, terms_of, brought, terms_at, known_after, lexicon_at}
use Rattle.change_model.specs.Entries.{AreIdsOf}
use Rattle.change_model.specs.Numbering.{BindWell, AreIdsIn}
use Rattle.change_model.proofs.Members.{each_of, Has-map, Has-from_map, Has-told}
use Rattle.change_model.proofs.Terms.{IsTerm-bound, term-told, terms_of-each}
use Rattle.change_model.proofs.Lexicons.{AreWith-all, lexicon_at-one_more}
use Rattle.change_model.proofs.VocabularyTerms.{with_term-known, with_term-new, with_terms-append}

-- what holds of each that stands in a list holds of all
pub all_from : {A : Type 0} (P : A → Type 0) (xs : List A) → ((x : A) → Has xs x → P x) → AllByRecursion P xs
all_from P [] each = tt
all_from P (x ∷ xs) each = (each x (inl refl), all_from P xs (λ y h. each y (inr h)))

-- no known term is a node of a later time
abbrev IsEarlier : ℕ → Term → Type 0
IsEarlier time (Iri iri) = Unit {0}
IsEarlier time (Literal form datatype) = Unit {0}
IsEarlier time (Tagged form tag) = Unit {0}
IsEarlier time (Blank at label) = at ≤ time

earlier_later : (time : ℕ) (term : Term) → IsEarlier time term → IsEarlier (suc time) term
earlier_later time (Iri iri) h = tt
earlier_later time (Literal form datatype) h = tt
earlier_later time (Tagged form tag) h = tt
earlier_later time (Blank at label) h = omega (arith, h)

earlier_bound : (time : ℕ) (term : Term) → IsEarlier time (bound_term time term)
earlier_bound time (Iri iri) = tt
earlier_bound time (Literal form datatype) = tt
earlier_bound time (Tagged form tag) = tt
earlier_bound time (Blank at label) = omega arith

abbrev AreEarlier : ℕ → Statement → Type 0
AreEarlier time statement = IsEarlier time statement.subject × IsEarlier time statement.predicate × IsEarlier time statement.object

earlier_brought : (kind : Kind) (time : ℕ) (statements : List Statement) (term : Term) → Has (brought kind (terms_of (map (bound_at time) statements))) term → IsEarlier time term
earlier_brought Add time statements term h =
    terms_of-each (IsEarlier time) (map (bound_at time) statements)
    (λ bound there. let from = Has-from_map (bound_at time) statements bound there in
    subst (AreEarlier time) from.2 (earlier_bound time from.0.subject, earlier_bound time from.0.predicate, earlier_bound time from.0.object))
    term h
earlier_brought Remove time statements term h = absurd h

earlier_after : (o : Option Committed) (k : ℕ) (known : List Term) → ((term : Term) → Has known term → IsEarlier k term) → (term : Term) → Has (known_after o (suc k) known) term → IsEarlier (suc k) term
earlier_after None k known before term h = earlier_later k term (before term h)
earlier_after (Some c) k known before term h =
    elim ((AreWith-all known (terms_at (suc k) c.change)).only term h) [
      | inl old ↦ earlier_later k term (before term old)
      | inr new ↦ earlier_brought c.change.kind (suc k) c.change.statements term new
    ]

lexicon-earlier : (history : History) (k : ℕ) (term : Term) → Has (lexicon_at history k) term → IsEarlier k term
lexicon-earlier history zero term h = absurd h
lexicon-earlier history (suc k) term h = earlier_after (slice_get history k) k (lexicon_at history k) (lexicon-earlier history k) term h

not_earlier : (k : ℕ) (label : List ℕ) → IsEarlier k (Blank (suc k) label) → ⊥
not_earlier k label h = omega (arith, h)

pub no_later_node : (history : History) (k : ℕ) (label : List ℕ) → Has (lexicon_at history k) (Blank (suc k) label) → ⊥
no_later_node history k label h = not_earlier k label (lexicon-earlier history k (Blank (suc k) label) h)

-- the ids of a vocabulary's terms
pub ids_in : (history : History) (terms : List Term) (ids : List (Option ℕ)) → AreIdsOf history terms ids → AreIdsIn (lexicon_at history (length history)) terms ids
ids_in history [] [] are = tt
ids_in history [] (id ∷ ids) are = are
ids_in history (term ∷ terms) [] are = are
ids_in history (term ∷ terms) (None ∷ ids) are = (are.0, ids_in history terms ids are.1)
ids_in history (term ∷ terms) (Some id ∷ ids) are = (are.0, ids_in history terms ids are.1)

-- the terms of a vocabulary keep the rules when their labels are bound
pub vocabulary-binds : (time : ℕ) (statements : List Statement) (terms : List Term) → time < 2 ^ 64 → AllByRecursion IsStatement statements → terms ≡ with_terms [] (terms_of statements) → BindWell time terms
vocabulary-binds time statements terms small are is =
    let Binds = λ (t : Term). IsTerm (bound_term time t) in
    let each : (term : Term) → Has (terms_of statements) term → Binds term =
    terms_of-each Binds statements
    (λ s there. let well = each_of IsStatement statements s are there in
    (IsTerm-bound time s.subject small well.subject, IsTerm-bound time s.predicate small well.predicate, IsTerm-bound time s.object small well.object)) in
    subst (BindWell time) (sym is)
    (all_from Binds (with_terms [] (terms_of statements)) (λ t h. elim ((AreWith-all [] (terms_of statements)).only t h) [ inl none ↦ absurd none | inr there ↦ each t there ]))

-- a vocabulary, bound, brings what the statements, bound, bring

told : (known : List Term) (term : Term) → Has known term ⊎ (Has known term → ⊥)
told known term = Has-told term-told known term

one_more : (f : Term → Term) (base known : List Term) (term : Term) → Has known term ⊎ (Has known term → ⊥)
    → with_terms base (map f (with_term known term)) ≡ with_term (with_terms base (map f known)) (f term)
one_more f base known term (inl h) =
    ap (λ ts. with_terms base (map f ts)) (with_term-known known term h) ∙ sym (with_term-known (with_terms base (map f known)) (f term) ((AreWith-all base (map f known)).has (f term) (Has-map f known term h)))
one_more f base known term (inr new) =
    ap (λ ts. with_terms base (map f ts)) (with_term-new known term new) ∙ ap (with_terms base) (map-append f known (term ∷ [])) ∙ with_terms-append base (map f known) (f term ∷ [])

image_brings : (f : Term → Term) (base known terms : List Term) → with_terms base (map f (with_terms known terms)) ≡ with_terms (with_terms base (map f known)) (map f terms)
image_brings f base known [] = refl
image_brings f base known (term ∷ terms) =
    image_brings f base (with_term known term) terms ∙ ap (λ ks. with_terms ks (map f terms)) (one_more f base known term (told known term))

terms_bound : (time : ℕ) (statements : List Statement) → map (bound_term time) (terms_of statements) ≡ terms_of (map (bound_at time) statements)
terms_bound time [] = refl
terms_bound time (s ∷ statements) = ap (λ rest. bound_term time s.subject ∷ bound_term time s.predicate ∷ bound_term time s.object ∷ rest) (terms_bound time statements)

by_kind : (kind : Kind) (base terms : List Term) (time : ℕ) (statements : List Statement) → terms ≡ with_terms [] (terms_of statements)
    → with_terms base (brought kind (map (bound_term time) terms)) ≡ with_terms base (brought kind (terms_of (map (bound_at time) statements)))
by_kind Add base terms time statements is =
    ap (λ ts. with_terms base (map (bound_term time) ts)) is ∙ image_brings (bound_term time) base [] (terms_of statements) ∙ ap (with_terms base) (terms_bound time statements)
by_kind Remove base terms time statements is = refl

-- the lexicon after a change, by the vocabulary of the change
pub lexicon-by_vocabulary : (history : History) (c : Committed) (terms : List Term) → terms ≡ with_terms [] (terms_of c.change.statements)
    → with_terms (lexicon_at history (length history)) (brought c.change.kind (map (bound_term (suc (length history))) terms)) ≡ lexicon_at (history ++ (c ∷ [])) (suc (length history))
lexicon-by_vocabulary history c terms is =
    by_kind c.change.kind (lexicon_at history (length history)) terms (suc (length history)) c.change.statements is ∙ sym (lexicon_at-one_more history c)
