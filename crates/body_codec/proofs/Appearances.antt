-- Terms by first appearance, and places in their turn: the one says the other.
use Rattle.std.proofs.Common.{◌≡◌, ℕ, Bool, true, false, suc, ◌+◌, ◌<◌, ◌≤◌, List, [], ◌∷◌, ◌++◌, length, take, Some, inl, inr, refl, sym, ◌∙◌, ap, subst, append_assoc, arith}
use Rattle.std.specs.Prelude.{if◌then◌else◌}
use Rattle.std.specs.List.{slice_get, list_any, AllByRecursion}
use Rattle.std.proofs.lemmas.Bool.{cases_lt}
use Rattle.std.proofs.lemmas.List.{append-nil, take_all}
use Rattle.std.proofs.lemmas.Option.{slice_get_within}
use Rattle.term_core.specs.declared.term.Term.{Term}
use Rattle.term_core.specs.declared.statement.Statement.{Statement}
use Rattle.base_core.specs.Lists.{Has, AreDistinct}
use Rattle.term_core.specs.Term.{IsStatement}
use Rattle.change_model.specs.declared.vocabulary.Places.{Places}
use Rattle.change_model.specs.Entries.{IsPlaced, ArePlaced}
use Rattle.change_model.specs.Lexicon.{same_term, with_term, with_terms, terms_of}
use Rattle.change_model.proofs.Lexicons.{Grown, AreWith-one, AreWith-all}
use Rattle.change_model.proofs.Members.{at_place, place_of, one_place, slice_get-append, slice_get-last, length-one_more, Has-told}
use Rattle.change_model.proofs.Terms.{term-told, list_any-Decides}
use Rattle.body_codec.specs.Body.{numbers, named, IsInTurn, IsPlacing, ArePlacings}
use Rattle.body_codec.specs.Reading.{IsNext}
use Rattle.body_codec.proofs.Elements.{slice_get-take, slice_get_in-take, take-at_place}
use Rattle.body_codec.proofs.Turns.{IsNext-none, IsNext-again, IsNext-new, IsNext-three, turn_within, within_turn, AreInTurn-from, AreInTurn-object}

-- ---- one more term

false_unless : (b : Bool) → (b ≡ true → ⊥) → b ≡ false
false_unless true never = absurd (never refl)
false_unless false never = refl

with_term-known : (known : List Term) (term : Term) → Has known term → with_term known term ≡ known
with_term-known known term h = ap (λ (b : Bool). if b then known else known ++ term ∷ []) ((list_any-Decides term known).1 h)

with_term-new : (known : List Term) (term : Term) → (Has known term → ⊥) → with_term known term ≡ known ++ term ∷ []
with_term-new known term new =
    ap (λ (b : Bool). if b then known else known ++ term ∷ []) (false_unless (list_any (same_term term) known) (λ e. new ((list_any-Decides term known).0 e)))

-- what is known keeps its place
Grown-keeps : (known grown : List Term) (place : ℕ) (term : Term) → Grown known grown → slice_get known place ≡ Some term → slice_get grown place ≡ Some term
Grown-keeps known grown place term (rest, is) at =
    ap (λ l. slice_get l place) is ∙ slice_get-append known rest place (slice_get_within known place term at) ∙ at

with_term-keeps : (known : List Term) (more : Term) (place : ℕ) (term : Term) → slice_get known place ≡ Some term → slice_get (with_term known more) place ≡ Some term
with_term-keeps known more place term at = Grown-keeps known (with_term known more) place term (AreWith-one known more).grows at

with_terms-keeps : (known terms : List Term) (place : ℕ) (term : Term) → slice_get known place ≡ Some term → slice_get (with_terms known terms) place ≡ Some term
with_terms-keeps known terms place term at = Grown-keeps known (with_terms known terms) place term (AreWith-all known terms).grows at

-- ---- places in their turn give the terms by first appearance

-- so many of the terms are known, and the places before name these
pub record IsKnown (terms known : List Term) (before : List ℕ) : Type 0 where
  pub next : ℕ
  pub next_is : IsNext before next
  pub known_is : known ≡ take next terms

known_one : (terms known : List Term) (before : List ℕ) (place : ℕ) (term : Term) → AreDistinct terms → IsKnown terms known before
    → slice_get terms place ≡ Some term → IsInTurn before place → IsKnown terms (with_term known term) (before ++ place ∷ [])
known_one terms known before place term apart is at turn =
    let within = turn_within before is.next place is.next_is turn in
    elim (cases_lt place is.next) [
      | inl old ↦
          let here : slice_get known place ≡ Some term = ap (λ l. slice_get l place) is.known_is ∙ slice_get-take is.next place terms old ∙ at in
          record {
            next = is.next;
            next_is = IsNext-again before is.next place is.next_is old;
            known_is = with_term-known known term (at_place known place term here) ∙ is.known_is;
          }
      | inr past ↦
          let new : place ≡ is.next = omega arith in
          let fresh : Has known term → ⊥ = λ h.
          let there = place_of known term h in
          let there_is : slice_get (take is.next terms) there.0 ≡ Some term = sym (ap (λ l. slice_get l there.0) is.known_is) ∙ there.1 in
          let below = slice_get_in-take is.next there.0 terms term there_is in
          let same : there.0 ≡ place = one_place terms there.0 place term apart (sym (slice_get-take is.next there.0 terms below) ∙ there_is) at in
          absurd (omega arith) in
          let longer : take (suc place) terms ≡ take place terms ++ term ∷ [] = take-at_place place terms term at in
          record {
            next = place + 1;
            next_is = IsNext-new before is.next place is.next_is new;
            known_is = with_term-new known term fresh ∙ ap (λ l. l ++ term ∷ []) (is.known_is ∙ ap (λ n. take n terms) (sym new)) ∙ sym longer ∙ ap (λ n. take n terms) (let more : suc place ≡ place + 1 = omega arith in more);
          }
    ]

known_three : (terms known : List Term) (before : List ℕ) (statement : Statement) (places : Places) → AreDistinct terms → IsKnown terms known before
    → IsPlaced terms statement places → IsPlacing terms before places
    → IsKnown terms (with_term (with_term (with_term known statement.subject) statement.predicate) statement.object) (before ++ numbers places)
known_three terms known before statement places apart is placed placing =
    let s = known_one terms known before places.subject statement.subject apart is placed.subject placing.turns.subject in
    let p = known_one terms _ _ places.predicate statement.predicate apart s placed.predicate placing.turns.predicate in
    let o = known_one terms _ _ places.object statement.object apart p placed.object (AreInTurn-object before places placing.turns) in
    record { next = o.next; next_is = IsNext-three before places o.next o.next_is; known_is = o.known_is }

known_all : (terms known : List Term) (before : List ℕ) (statements : List Statement) (placed : List Places) → AreDistinct terms → IsKnown terms known before
    → ArePlaced terms statements placed → ArePlacings terms before placed → IsKnown terms (with_terms known (terms_of statements)) (before ++ named placed)
known_all terms known before [] [] apart is are placings = record { next = is.next; next_is = subst (λ l. IsNext l is.next) (sym (append-nil before)) is.next_is; known_is = is.known_is }
known_all terms known before [] (places ∷ placed) apart is are placings = absurd are
known_all terms known before (statement ∷ statements) [] apart is are placings = absurd are
known_all terms known before (statement ∷ statements) (places ∷ placed) apart is are placings =
    let one = known_three terms known before statement places apart is are.0 placings.0 in
    subst (IsKnown terms (with_terms known (terms_of (statement ∷ statements)))) (append_assoc before (numbers places) (named placed))
    (known_all terms (with_term (with_term (with_term known statement.subject) statement.predicate) statement.object) (before ++ numbers places) statements placed apart one are.1 placings.1)

-- terms whose places are named in their turn, and all of them, are the terms by first appearance
pub terms_by_appearance : (terms : List Term) (statements : List Statement) (placed : List Places) → AreDistinct terms
    → ArePlaced terms statements placed → ArePlacings terms [] placed → ((place : ℕ) → place < length terms → Has (named placed) place)
    → terms ≡ with_terms [] (terms_of statements)
terms_by_appearance terms statements placed apart are placings used =
    let start : IsKnown terms [] [] = record { next = 0; next_is = IsNext-none; known_is = refl } in
    let all = known_all terms [] [] statements placed apart start are placings in
    let long : length terms ≤ all.next = elim (cases_lt all.next (length terms)) [ inl fewer ↦ (let low = (all.next_is all.next).0 (used all.next fewer) in absurd (omega arith)) | inr enough ↦ enough ] in
    sym (all.known_is ∙ take_all all.next terms long)

-- ---- terms by first appearance give places in their turn

-- the places before name the known terms, which are in front of all terms
turn_one : (terms known : List Term) (before : List ℕ) (place : ℕ) (term : Term) → AreDistinct terms → IsNext before (length known)
    → ((k : ℕ) (x : Term) → slice_get (with_term known term) k ≡ Some x → slice_get terms k ≡ Some x)
    → slice_get terms place ≡ Some term → IsInTurn before place × IsNext (before ++ place ∷ []) (length (with_term known term))
turn_one terms known before place term apart next keeps at =
    elim (Has-told term-told known term) [
      | inl old ↦
          let there = place_of known term old in
          let same : there.0 ≡ place = one_place terms there.0 place term apart (keeps there.0 term (with_term-keeps known term there.0 term there.1)) at in
          let below : there.0 < length known = slice_get_within known there.0 term there.1 in
          let low : place < length known = omega arith in (
            within_turn before (length known) place next (omega arith),
            subst (λ l. IsNext (before ++ place ∷ []) (length l)) (sym (with_term-known known term old)) (IsNext-again before (length known) place next low),
          )
      | inr new ↦
          let grown = with_term-new known term new in
          let last : slice_get (with_term known term) (length known) ≡ Some term = ap (λ l. slice_get l (length known)) grown ∙ slice_get-last known term in
          let same : length known ≡ place = one_place terms (length known) place term apart (keeps (length known) term last) at in
          let long : length (with_term known term) ≡ place + 1 = ap length grown ∙ length-one_more known term ∙ (let more : suc (length known) ≡ place + 1 = omega arith in more) in (
            within_turn before (length known) place next (omega arith),
            subst (IsNext (before ++ place ∷ [])) (sym long) (IsNext-new before (length known) place next (sym same)),
          )
    ]

-- the places and the kinds of the terms of one statement
placing_one : (terms known rest : List Term) (before : List ℕ) (statement : Statement) (places : Places) → AreDistinct terms → IsNext before (length known)
    → terms ≡ with_terms known (statement.subject ∷ statement.predicate ∷ statement.object ∷ rest) → IsStatement statement → IsPlaced terms statement places
    → IsPlacing terms before places
    × IsNext (before ++ numbers places) (length (with_term (with_term (with_term known statement.subject) statement.predicate) statement.object))
placing_one terms known rest before statement places apart next is triple placed =
    let first = with_term known statement.subject in
    let second = with_term first statement.predicate in
    let third = with_term second statement.object in
    let keeps_third : (k : ℕ) (x : Term) → slice_get third k ≡ Some x → slice_get terms k ≡ Some x =
    λ k x e. ap (λ l. slice_get l k) is ∙ with_terms-keeps third rest k x e in
    let keeps_second : (k : ℕ) (x : Term) → slice_get second k ≡ Some x → slice_get terms k ≡ Some x =
    λ k x e. keeps_third k x (with_term-keeps second statement.object k x e) in
    let keeps_first : (k : ℕ) (x : Term) → slice_get first k ≡ Some x → slice_get terms k ≡ Some x =
    λ k x e. keeps_second k x (with_term-keeps first statement.predicate k x e) in
    let s = turn_one terms known before places.subject statement.subject apart next keeps_first placed.subject in
    let p = turn_one terms first _ places.predicate statement.predicate apart s.1 keeps_second placed.predicate in
    let o = turn_one terms second _ places.object statement.object apart p.1 keeps_third placed.object in (
      record {
        names = record {
          subject = (statement.subject, placed.subject, triple.subject_kind);
          predicate = (statement.predicate, placed.predicate, triple.predicate_kind);
          object = (statement.object, placed.object, tt);
        };
        turns = AreInTurn-from before places s.0 p.0 o.0;
      },
      IsNext-three before places _ o.1,
    )

placings_all : (terms known : List Term) (before : List ℕ) (statements : List Statement) (placed : List Places) → AreDistinct terms → IsNext before (length known)
    → terms ≡ with_terms known (terms_of statements) → AllByRecursion IsStatement statements → ArePlaced terms statements placed
    → ArePlacings terms before placed × IsNext (before ++ named placed) (length terms)
placings_all terms known before [] [] apart next is triples are =
    (tt, subst (λ l. IsNext l (length terms)) (sym (append-nil before)) (subst (λ l. IsNext before (length l)) (sym is) next))
placings_all terms known before [] (places ∷ placed) apart next is triples are = absurd are
placings_all terms known before (statement ∷ statements) [] apart next is triples are = absurd are
placings_all terms known before (statement ∷ statements) (places ∷ placed) apart next is triples are =
    let one = placing_one terms known (terms_of statements) before statement places apart next is triples.0 are.0 in
    let rest = placings_all terms (with_term (with_term (with_term known statement.subject) statement.predicate) statement.object) (before ++ numbers places) statements placed apart one.1 is triples.1 are.1 in
    ((one.0, rest.0), subst (λ l. IsNext l (length terms)) (append_assoc before (numbers places) (named placed)) rest.1)

-- the terms by first appearance are distinct, and their places are named in their turn, and all of them
pub record AreByAppearance (terms : List Term) (placed : List Places) : Type 0 where
  pub apart : AreDistinct terms
  pub placings : ArePlacings terms [] placed
  pub used : (place : ℕ) → place < length terms → Has (named placed) place

pub places_in_turn : (terms : List Term) (statements : List Statement) (placed : List Places) → terms ≡ with_terms [] (terms_of statements)
    → AllByRecursion IsStatement statements → ArePlaced terms statements placed → AreByAppearance terms placed
places_in_turn terms statements placed is triples are =
    let apart : AreDistinct terms = subst (λ (l : List Term). AreDistinct l) (sym is) ((AreWith-all [] (terms_of statements)).distinct tt) in
    let all = placings_all terms [] [] statements placed apart IsNext-none is triples are in
    record { apart = apart; placings = all.0; used = λ place below. (all.1 place).1 below }
