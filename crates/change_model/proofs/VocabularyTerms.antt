-- How a list of known terms grows, and where its terms stand then.
use Rattle.std.proofs.Common.{◌≡◌, ℕ, zero, suc, Bool, true, false, List, [], ◌∷◌, ◌++◌, map, length, Some, refl, sym, ◌∙◌, ap, subst, ◌+◌, ◌<◌, ◌≤◌, take, get_or, append_assoc}
use Rattle.std.specs.Prelude.{if◌then◌else◌}
use Rattle.std.specs.List.{slice_get, list_any}
use Rattle.std.proofs.lemmas.List.{take_more, take_all, append-nil}
use Rattle.std.proofs.lemmas.List.Concat.{flat_map-append}
use Rattle.std.proofs.lemmas.Option.{none-some}
use Rattle.term_core.specs.declared.term.Term.{Term}
use Rattle.term_core.specs.declared.statement.Statement.{Statement}
use Rattle.term_core.specs.Spelling.{spelling}
use Rattle.base_core.specs.Lists.{Has}
use Rattle.change_model.specs.declared.vocabulary.Vocabulary.{Vocabulary}
use Rattle.change_model.specs.declared.vocabulary.Places.{Places}
use Rattle.change_model.specs.Entries.{IsPlaced, ArePlaced, IsVocabularyOf}
use Rattle.change_model.specs.Lexicon.{same_term, with_term, with_terms, terms_of}
use Rattle.change_model.specs.TermKeys.{same_term-Decides}
use Rattle.change_model.specs.Vocabulary.{StandsAt}
use Rattle.change_model.proofs.Terms.{list_any-Decides}

pub false_unless : (b : Bool) → (b ≡ true → ⊥) → b ≡ false
false_unless true never = absurd (never refl)
false_unless false never = refl

-- a term that stands there already, and one that is new
pub with_term-known : (known : List Term) (term : Term) → Has known term → with_term known term ≡ known
with_term-known known term h = ap (λ (b : Bool). if b then known else known ++ (term ∷ [])) ((list_any-Decides term known).1 h)

pub with_term-new : (known : List Term) (term : Term) → (Has known term → ⊥) → with_term known term ≡ known ++ (term ∷ [])
with_term-new known term new =
    ap (λ (b : Bool). if b then known else known ++ (term ∷ [])) (false_unless (list_any (same_term term) known) (λ e. new ((list_any-Decides term known).0 e)))

-- what is put behind a list leaves the others where they are
pub grown_place : {A : Type 0} → (xs ys : List A) (place : ℕ) (x : A) → slice_get xs place ≡ Some x → slice_get (xs ++ ys) place ≡ Some x
grown_place [] ys place x e = absurd (none-some x e)
grown_place (first ∷ xs) ys zero x e = e
grown_place (first ∷ xs) ys (suc place) x e = grown_place xs ys place x e

kept_by : (b : Bool) (known : List Term) (term : Term) (place : ℕ) (x : Term) → slice_get known place ≡ Some x
    → slice_get (if b then known else known ++ (term ∷ [])) place ≡ Some x
kept_by true known term place x e = e
kept_by false known term place x e = grown_place known (term ∷ []) place x e

pub with_term-keeps : (known : List Term) (term : Term) (place : ℕ) (x : Term) → slice_get known place ≡ Some x → slice_get (with_term known term) place ≡ Some x
with_term-keeps known term place x e = kept_by (list_any (same_term term) known) known term place x e

pub with_terms-keeps : (known terms : List Term) (place : ℕ) (x : Term) → slice_get known place ≡ Some x → slice_get (with_terms known terms) place ≡ Some x
with_terms-keeps known [] place x e = e
with_terms-keeps known (term ∷ terms) place x e = with_terms-keeps (with_term known term) terms place x (with_term-keeps known term place x e)

pub with_terms-append : (known xs ys : List Term) → with_terms known (xs ++ ys) ≡ with_terms (with_terms known xs) ys
with_terms-append known [] ys = refl
with_terms-append known (x ∷ xs) ys = with_terms-append (with_term known x) xs ys

-- what the set finds in place of a term is the term
pub found_is : (terms : List Term) (term : Term) (place : ℕ) → (k : Term) × (slice_get terms place ≡ Some k) × (same_term term k ≡ true) → StandsAt terms term place
found_is terms term place found = found.1 ∙ ap Some (sym ((same_term-Decides term found.0).0 found.2))

-- places stay right as the terms grow
pub ArePlaced-grown : (known more : List Term) (statements : List Statement) (places : List Places)
    → ((place : ℕ) (x : Term) → slice_get known place ≡ Some x → slice_get more place ≡ Some x) → ArePlaced known statements places → ArePlaced more statements places
ArePlaced-grown known more [] [] keeps are = tt
ArePlaced-grown known more [] (place ∷ places) keeps are = are
ArePlaced-grown known more (statement ∷ statements) [] keeps are = are
ArePlaced-grown known more (statement ∷ statements) (place ∷ places) keeps are = (
  record {
    subject = keeps place.subject statement.subject are.0.subject;
    predicate = keeps place.predicate statement.predicate are.0.predicate;
    object = keeps place.object statement.object are.0.object;
  },
  ArePlaced-grown known more statements places keeps are.1,
)

pub ArePlaced-push : (known : List Term) (statements : List Statement) (places : List Places) (statement : Statement) (place : Places)
    → ArePlaced known statements places → IsPlaced known statement place → ArePlaced known (statements ++ (statement ∷ [])) (places ++ (place ∷ []))
ArePlaced-push known [] [] statement place are is = (is, tt)
ArePlaced-push known [] (first ∷ places) statement place are is = absurd are
ArePlaced-push known (first ∷ statements) [] statement place are is = absurd are
ArePlaced-push known (first ∷ statements) (one ∷ places) statement place are is = (are.0, ArePlaced-push known statements places statement place are.1 is)

-- one more statement of a list
pub record AreSoFar (known : List Term) (statements : List Statement) (i : ℕ) (places : List Places) : Type 0 where
  pub terms : known ≡ with_terms [] (terms_of (take i statements))
  pub placed : ArePlaced known (take i statements) places

pub so_far_more : (old new : List Term) (statements : List Statement) (i : ℕ) (places all : List Places) (statement : Statement) (place : Places)
    → i < length statements → statement ≡ get_or statements i statement
    → old ≡ with_terms [] (terms_of (take i statements)) → ArePlaced old (take i statements) places
    → new ≡ with_terms old (statement.subject ∷ statement.predicate ∷ statement.object ∷ []) → IsPlaced new statement place → all ≡ places ++ (place ∷ [])
    → AreSoFar new statements (i + 1) all
so_far_more old new statements i places all statement place within is terms placed grown here pushed =
    let more : take (i + 1) statements ≡ take i statements ++ (statement ∷ []) = take_more statements i statement within ∙ ap (λ s. take i statements ++ (s ∷ [])) (sym is) in
    let three = statement.subject ∷ statement.predicate ∷ statement.object ∷ [] in
    let front = terms_of (take i statements) in
    let whole : terms_of (take (i + 1) statements) ≡ front ++ three = ap terms_of more ∙ flat_map-append (λ (s : Statement). s.subject ∷ s.predicate ∷ s.object ∷ []) (take i statements) (statement ∷ []) in
    let kept : ArePlaced new (take i statements) places = ArePlaced-grown old new (take i statements) places
    (λ k x e. subst (λ (ts : List Term). slice_get ts k ≡ Some x) (sym grown) (with_terms-keeps old three k x e)) placed in
    let all_placed : ArePlaced new (take i statements ++ (statement ∷ [])) (places ++ (place ∷ [])) = ArePlaced-push new (take i statements) places statement place kept here in
    record {
      terms = grown ∙ ap (λ ts. with_terms ts three) terms ∙ sym (with_terms-append [] front three) ∙ ap (with_terms []) (sym whole);
      placed = subst (λ (ps : List Places). ArePlaced new (take (i + 1) statements) ps) (sym pushed) (subst (λ (ss : List Statement). ArePlaced new ss (places ++ (place ∷ []))) (sym more) all_placed);
    }

-- all statements are done
pub vocabulary_made : (statements items : List Statement) (i : ℕ) (known : List Term) (placed : List Places) (vocabulary : Vocabulary) → items ≡ statements → length items ≤ i
    → known ≡ with_terms [] (terms_of (take i items)) → ArePlaced known (take i items) placed
    → vocabulary.terms ≡ known → vocabulary.spellings ≡ map spelling vocabulary.terms → vocabulary.places ≡ placed → IsVocabularyOf statements vocabulary
vocabulary_made statements items i known placed vocabulary same end known_is are terms spellings places =
    let whole : take i items ≡ statements = take_all i items end ∙ same in
    record {
      terms = terms ∙ known_is ∙ ap (λ ss. with_terms [] (terms_of ss)) whole;
      spellings = spellings;
      places = subst (λ (ts : List Term). ArePlaced ts statements vocabulary.places) (sym terms)
          (subst (λ (ss : List Statement). ArePlaced known ss vocabulary.places) whole (subst (ArePlaced known (take i items)) (sym places) are));
    }

-- one more term was copied
pub copied_more : (copies new all : List Term) (copy first : Term) (left rest : List Term) → copies ++ left ≡ all → left ≡ first ∷ rest → copy ≡ first → new ≡ copies ++ (copy ∷ [])
    → new ++ rest ≡ all
copied_more copies new all copy first left rest so_far is same pushed =
    ap (λ ts. ts ++ rest) pushed ∙ append_assoc copies (copy ∷ []) rest ∙ ap (λ t. copies ++ (t ∷ rest)) same ∙ ap (λ ts. copies ++ ts) (sym is) ∙ so_far

pub copied_all : (copies all left : List Term) → copies ++ left ≡ all → left ≡ [] → copies ≡ all
copied_all copies all left so_far none = sym (append-nil copies) ∙ ap (λ ts. copies ++ ts) (sym none) ∙ so_far
