-- What the least place that isn't named says: which places are in their turn.
use Rattle.std.proofs.Common.{◌≡◌, ℕ, ◌+◌, ◌<◌, ◌≤◌, List, [], ◌∷◌, ◌++◌, inl, inr, refl, sym, ◌∙◌, ap, subst, append_assoc, arith}
use Rattle.std.proofs.lemmas.Bool.{cases_lt}
use Rattle.std.proofs.lemmas.List.{append-nil}
use Rattle.term_core.specs.declared.term.Term.{Term}
use Rattle.change_model.specs.declared.vocabulary.Places.{Places}
use Rattle.change_model.proofs.Members.{Has-append}
use Rattle.body_codec.specs.Body.{numbers, named, IsInTurn, AreInTurn, IsPlacing, ArePlacings}
use Rattle.body_codec.specs.Reading.{IsNext}

pub IsNext-none : IsNext [] 0
IsNext-none place = (λ h. absurd h, λ below. absurd (omega arith))

pub turn_within : (before : List ℕ) (next place : ℕ) → IsNext before next → IsInTurn before place → place ≤ next
turn_within before next place is turn =
    elim (cases_lt next place) [ inl above ↦ let low = (is next).0 (turn next above) in absurd (omega arith) | inr within ↦ within ]

pub within_turn : (before : List ℕ) (next place : ℕ) → IsNext before next → place ≤ next → IsInTurn before place
within_turn before next place is within lower below = (is lower).1 (omega arith)

-- a place that was named before
pub IsNext-again : (before : List ℕ) (next place : ℕ) → IsNext before next → place < next → IsNext (before ++ place ∷ []) next
IsNext-again before next place is old q =
    let both = Has-append before (place ∷ []) q in (
      λ h. elim (both.0 h) [ inl early ↦ (is q).0 early | inr last ↦ elim last [ inl same ↦ omega arith | inr none ↦ absurd none ] ],
      λ below. both.1 (inl ((is q).1 below)),
    )

-- and the next one
pub IsNext-new : (before : List ℕ) (next place : ℕ) → IsNext before next → place ≡ next → IsNext (before ++ place ∷ []) (place + 1)
IsNext-new before next place is new q =
    let both = Has-append before (place ∷ []) q in (
      λ h. elim (both.0 h) [ inl early ↦ (let low = (is q).0 early in omega arith) | inr last ↦ elim last [ inl same ↦ omega arith | inr none ↦ absurd none ] ],
      λ below. elim (cases_lt q next) [ inl low ↦ both.1 (inl ((is q).1 low)) | inr past ↦ both.1 (inr (inl (omega arith))) ],
    )

-- ---- the three places of a statement

two : (before : List ℕ) (s p : ℕ) → (before ++ s ∷ []) ++ p ∷ [] ≡ before ++ s ∷ p ∷ []
two before s p = append_assoc before (s ∷ []) (p ∷ [])

three : (before : List ℕ) (s p o : ℕ) → ((before ++ s ∷ []) ++ p ∷ []) ++ o ∷ [] ≡ before ++ s ∷ p ∷ o ∷ []
three before s p o = ap (λ l. l ++ o ∷ []) (two before s p) ∙ append_assoc before (s ∷ p ∷ []) (o ∷ [])

pub AreInTurn-from : (before : List ℕ) (places : Places) → IsInTurn before places.subject → IsInTurn (before ++ places.subject ∷ []) places.predicate
    → IsInTurn ((before ++ places.subject ∷ []) ++ places.predicate ∷ []) places.object → AreInTurn before places
AreInTurn-from before places s p o = record {
  subject = s;
  predicate = p;
  object = subst (λ l. IsInTurn l places.object) (two before places.subject places.predicate) o;
}

pub AreInTurn-object : (before : List ℕ) (places : Places) → AreInTurn before places → IsInTurn ((before ++ places.subject ∷ []) ++ places.predicate ∷ []) places.object
AreInTurn-object before places are = subst (λ l. IsInTurn l places.object) (sym (two before places.subject places.predicate)) are.object

pub IsNext-three : (before : List ℕ) (places : Places) (next : ℕ) → IsNext (((before ++ places.subject ∷ []) ++ places.predicate ∷ []) ++ places.object ∷ []) next
    → IsNext (before ++ numbers places) next
IsNext-three before places next is = subst (λ l. IsNext l next) (three before places.subject places.predicate places.object) is

-- ---- one more statement

pub named-one_more : (placed : List Places) (places : Places) → named (placed ++ places ∷ []) ≡ named placed ++ numbers places
named-one_more [] places = refl
named-one_more (first ∷ placed) places = ap (λ l. first.subject ∷ first.predicate ∷ first.object ∷ l) (named-one_more placed places)

pub ArePlacings-push : (terms : List Term) (before : List ℕ) (placed : List Places) (places : Places) → ArePlacings terms before placed
    → IsPlacing terms (before ++ named placed) places → ArePlacings terms before (placed ++ places ∷ [])
ArePlacings-push terms before [] places are is = (subst (λ l. IsPlacing terms l places) (append-nil before) is, tt)
ArePlacings-push terms before (first ∷ placed) places are is = (
  are.0,
  ArePlacings-push terms (before ++ numbers first) placed places are.1
      (subst (λ l. IsPlacing terms l places) (sym (append_assoc before (numbers first) (named placed))) is),
)

-- the statements behind a front of them
pub ArePlacings-behind : (terms : List Term) (before : List ℕ) (placed more : List Places) → ArePlacings terms before (placed ++ more)
    → ArePlacings terms (before ++ named placed) more
ArePlacings-behind terms before [] more are = subst (λ l. ArePlacings terms l more) (sym (append-nil before)) are
ArePlacings-behind terms before (first ∷ placed) more are =
    subst (λ l. ArePlacings terms l more) (append_assoc before (numbers first) (named placed)) (ArePlacings-behind terms (before ++ numbers first) placed more are.1)
