-- A change that has a body, and the fields of its body.
use Rattle.std.proofs.Common.{◌≡◌, ℕ, suc, ◌+◌, ◌*◌, ◌<◌, ◌≤◌, ◌^◌, Bool, true, false, List, [], ◌∷◌, ◌++◌, map, length, Some, inl, inr, refl, sym, ◌∙◌, ap, subst, arith}
use Rattle.std.specs.Prelude.{if◌then◌else◌}
use Rattle.std.specs.List.{slice_get, list_any, AllByRecursion}
use Rattle.std.proofs.lemmas.List.{append-nil}
use Rattle.std.proofs.lemmas.Option.{same_Some}
use Rattle.term_core.specs.declared.term.Term.{Term}
use Rattle.term_core.specs.declared.statement.Statement.{Statement}
use Rattle.base_core.specs.Lists.{Has, AreDistinct}
use Rattle.term_core.specs.Spelling.{spelling}
use Rattle.term_core.specs.Term.{IsStatement, MayBeSubject, MayBePredicate}
use Rattle.change_model.specs.declared.history.Change.{Change}
use Rattle.change_model.specs.declared.history.Kind.{Kind}
use Rattle.change_model.specs.declared.vocabulary.Places.{Places}
use Rattle.change_model.specs.declared.vocabulary.Vocabulary.{Vocabulary}
use Rattle.change_model.specs.Entries.{ArePlaced, IsVocabularyOf}
use Rattle.change_model.specs.Lexicon.{same_term, with_term, with_terms, terms_of}
use Rattle.change_model.proofs.Lexicons.{AreWith-all}
use Rattle.change_model.proofs.Members.{at_place, each_of, one_place, length-one_more}
use Rattle.body_codec.specs.Body.{head_and_terms, body, numbers, named, IsTermOf, ArePlacings, NamesA, IsAny, HasSpelling, IsBodyOf}
use Rattle.body_codec.specs.Faults.{BeginWithTerms, BeginWithStatements}
use Rattle.body_codec.specs.Writing.{IsShort}
use Rattle.body_codec.specs.Reading.{AreAllStatements}
use Rattle.body_codec.proofs.Appearances.{terms_by_appearance, places_in_turn}
use Rattle.body_codec.proofs.Cuts.{same_places}
use Rattle.body_codec.proofs.Elements.{All-from_each}

-- the bytes are a whole body: all fields stand and keep their rules, all terms are used, and nothing follows
pub record IsWhole (bytes : List ℕ) (kind : Kind) (terms : List Term) (placed : List Places) : Type 0 where
  pub begin : BeginWithStatements bytes kind terms (length placed) placed []
  pub used : (place : ℕ) → place < length terms → Has (named placed) place

-- ---- from a change to the fields of its body

pub ArePlaced-length : (terms : List Term) (statements : List Statement) (placed : List Places) → ArePlaced terms statements placed → length placed ≡ length statements
ArePlaced-length terms [] [] are = refl
ArePlaced-length terms [] (places ∷ placed) are = absurd are
ArePlaced-length terms (statement ∷ statements) [] are = absurd are
ArePlaced-length terms (statement ∷ statements) (places ∷ placed) are = ap suc (ArePlaced-length terms statements placed are.1)

pub terms_of-length : (statements : List Statement) → length (terms_of statements) ≡ length statements * 3
terms_of-length [] = refl
terms_of-length (statement ∷ statements) = let rest = terms_of-length statements in omega arith

known_length : (b : Bool) (known : List Term) (term : Term) → length (if b then known else known ++ term ∷ []) ≤ length known + 1
known_length true known term = omega arith
known_length false known term = let long = length-one_more known term in omega arith

pub with_terms-length : (known terms : List Term) → length (with_terms known terms) ≤ length known + length terms
with_terms-length known [] = omega arith
with_terms-length known (term ∷ terms) =
    let one = known_length (list_any (same_term term) known) known term in
    let rest = with_terms-length (with_term known term) terms in
    omega arith

-- a statement has at most three terms of its own
pub few_terms : (statements : List Statement) → length statements ≤ 100000 → length (with_terms [] (terms_of statements)) < 2 ^ 32
few_terms statements few =
    let all = with_terms-length [] (terms_of statements) in
    let long = terms_of-length statements in
    omega arith

terms_each : (kind : Kind) (statements : List Statement) → AllByRecursion (IsTermOf kind) (terms_of statements)
    → (term : Term) → Has (with_terms [] (terms_of statements)) term → IsTermOf kind term
terms_each kind statements all term h =
    elim ((AreWith-all [] (terms_of statements)).only term h) [ inl none ↦ absurd none | inr there ↦ each_of (IsTermOf kind) (terms_of statements) term all there ]

-- the terms of a change keep the rules of a body
change_terms : (kind : Kind) (terms : List Term) (statements : List Statement) → terms ≡ with_terms [] (terms_of statements)
    → AllByRecursion (IsTermOf kind) (terms_of statements) → AllByRecursion (IsTermOf kind) terms
change_terms kind terms statements is all =
    All-from_each (IsTermOf kind) terms (λ term h. terms_each kind statements all term (subst (λ l. Has l term) is h))

-- the lengths of their spellings fit
spellings_short : (kind : Kind) (terms : List Term) → AllByRecursion (IsTermOf kind) terms → AllByRecursion IsShort (map spelling terms)
spellings_short kind [] all = tt
spellings_short kind (term ∷ terms) all = (all.0.short, spellings_short kind terms all.1)

pub short_spellings : (change : Change) (vocabulary : Vocabulary) → IsVocabularyOf change.statements vocabulary → HasSpelling change
    → AllByRecursion IsShort vocabulary.spellings
short_spellings change vocabulary is has =
    let all = change_terms change.kind vocabulary.terms change.statements is.terms has.terms in
    subst (λ (l : List (List ℕ)). AllByRecursion IsShort l) (sym is.spellings) (spellings_short change.kind vocabulary.terms all)

pub whole_of : (change : Change) (bytes : List ℕ) → HasSpelling change → (is : IsBodyOf change bytes)
    → IsWhole bytes change.kind is.vocabulary.terms is.vocabulary.places
whole_of change bytes has is =
    let terms = is.vocabulary.terms in
    let placed = is.vocabulary.places in
    let by = places_in_turn terms change.statements placed is.vocabulary_is.terms has.triples is.vocabulary_is.places in
    let long = ArePlaced-length terms change.statements placed is.vocabulary_is.places in
    let few = has.few in
    record {
      begin = record {
        cut = is.spelled ∙ sym (append-nil (body change.kind terms placed));
        fits = subst (λ (l : List Term). length l < 2 ^ 32) (sym is.vocabulary_is.terms) (few_terms change.statements has.few);
        few = omega arith;
        are = record { each = change_terms change.kind terms change.statements is.vocabulary_is.terms has.terms; apart = by.apart };
        placed = by.placings;
      };
      used = by.used;
    }

-- ---- from the fields of a body to its change

term_at : (kind : Kind) (May : Term → Type 0) (terms : List Term) (place : ℕ) (term : Term) → AllByRecursion (IsTermOf kind) terms
    → slice_get terms place ≡ Some term → NamesA May terms place → IsTermOf kind term × May term
term_at kind May terms place term all at names =
    (each_of (IsTermOf kind) terms term all (at_place terms place term at), subst May (same_Some names.0 term (sym names.1 ∙ at)) names.2)

-- the statements are triples, and their terms may stand in the change
pub record AreGood (kind : Kind) (statements : List Statement) : Type 0 where
  pub triples : AllByRecursion IsStatement statements
  pub terms : AllByRecursion (IsTermOf kind) (terms_of statements)

statements_good : (kind : Kind) (terms : List Term) (before : List ℕ) (statements : List Statement) (placed : List Places)
    → AllByRecursion (IsTermOf kind) terms → ArePlaced terms statements placed → ArePlacings terms before placed → AreGood kind statements
statements_good kind terms before [] [] all are placings = record { triples = tt; terms = tt }
statements_good kind terms before [] (places ∷ placed) all are placings = absurd are
statements_good kind terms before (statement ∷ statements) [] all are placings = absurd are
statements_good kind terms before (statement ∷ statements) (places ∷ placed) all are placings =
    let names = placings.0.names in
    let s = term_at kind MayBeSubject terms places.subject statement.subject all are.0.subject names.subject in
    let p = term_at kind MayBePredicate terms places.predicate statement.predicate all are.0.predicate names.predicate in
    let o = term_at kind IsAny terms places.object statement.object all are.0.object names.object in
    let rest = statements_good kind terms (before ++ numbers places) statements placed all are.1 placings.1 in
    record {
      triples = (record { subject = s.0.is; subject_kind = s.1; predicate = p.0.is; predicate_kind = p.1; object = o.0.is }, rest.triples);
      terms = (s.0, (p.0, (o.0, rest.terms)));
    }

-- a change and its body
pub record IsRead (bytes : List ℕ) (change : Change) : Type 0 where
  pub has : HasSpelling change
  pub is : IsBodyOf change bytes

pub change_of : (bytes : List ℕ) (kind : Kind) (terms : List Term) (rest : List ℕ) (statements : List Statement)
    → BeginWithTerms bytes kind (length terms) terms rest → AreAllStatements terms rest statements
    → IsRead bytes (record { kind = kind; statements = statements })
change_of bytes kind terms rest statements begin all =
    let good = statements_good kind terms [] statements all.places begin.are.each all.placed all.placings in
    let long = ArePlaced-length terms statements all.places all.placed in
    let few = all.few in
    record {
      has = record { triples = good.triples; few = omega arith; terms = good.terms };
      is = record {
        vocabulary = record { terms = terms; spellings = map spelling terms; places = all.places };
        vocabulary_is = record { terms = terms_by_appearance terms statements all.places begin.are.apart all.placed all.placings all.used; spellings = refl; places = all.placed };
        spelled = begin.cut ∙ ap (λ l. head_and_terms kind (length terms) terms ++ l) all.cut;
      };
    }

-- ---- a change has one body

places_same : (terms : List Term) (statements : List Statement) (placed ones : List Places) → AreDistinct terms
    → ArePlaced terms statements placed → ArePlaced terms statements ones → placed ≡ ones
places_same terms [] [] [] apart are also = refl
places_same terms [] [] (other ∷ ones) apart are also = absurd also
places_same terms [] (places ∷ placed) ones apart are also = absurd are
places_same terms (statement ∷ statements) [] ones apart are also = absurd are
places_same terms (statement ∷ statements) (places ∷ placed) [] apart are also = absurd also
places_same terms (statement ∷ statements) (places ∷ placed) (other ∷ ones) apart are also =
    let same = same_places places other
    (one_place terms places.subject other.subject statement.subject apart are.0.subject also.0.subject)
    (one_place terms places.predicate other.predicate statement.predicate apart are.0.predicate also.0.predicate)
    (one_place terms places.object other.object statement.object apart are.0.object also.0.object) in
    ap (λ (p : Places). p ∷ placed) same ∙ ap (λ l. other ∷ l) (places_same terms statements placed ones apart are.1 also.1)

pub one_body : (change : Change) (bytes other : List ℕ) → IsBodyOf change bytes → IsBodyOf change other → bytes ≡ other
one_body change bytes other is also =
    let mine = is.vocabulary.terms in
    let yours = also.vocabulary.terms in
    let terms : mine ≡ yours = is.vocabulary_is.terms ∙ sym also.vocabulary_is.terms in
    let apart : AreDistinct yours = subst (λ (l : List Term). AreDistinct l) (sym also.vocabulary_is.terms) ((AreWith-all [] (terms_of change.statements)).distinct tt) in
    let are : ArePlaced yours change.statements is.vocabulary.places = subst (λ (l : List Term). ArePlaced l change.statements is.vocabulary.places) terms is.vocabulary_is.places in
    let places = places_same yours change.statements is.vocabulary.places also.vocabulary.places apart are also.vocabulary_is.places in
    is.spelled ∙ ap (λ (l : List Term). body change.kind l is.vocabulary.places) terms ∙ ap (body change.kind yours) places ∙ sym also.spelled
