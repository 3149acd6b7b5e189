-- The lexicon of a history: it only grows, no term stands in it twice, and which terms stand there.
use Rattle.std.proofs.Common.{◌≡◌, ℕ, zero, suc, ◌<◌, ◌≤◌, ◌^◌, Bool, true, false, List, [], ◌∷◌, ◌++◌, map, length, Option, Some, None, ◌⊎◌, inl, inr, ◌↔◌, refl, sym, ◌∙◌, ap, subst, arith, Decides, append_assoc, length-append, if◌then◌else◌}
use Rattle.std.proofs.lemmas.Bool.{false≢true, cases_lt}
use Rattle.std.proofs.lemmas.List.{append-nil}
use Rattle.std.proofs.lemmas.Option.{none-some, same_Some, slice_get_within}
use Rattle.std.specs.List.{list_any, slice_get, AllByRecursion}
use Rattle.term_core.specs.declared.term.Term.{Term}
use Rattle.term_core.specs.declared.statement.Statement.{Statement}
use Rattle.base_core.specs.Lists.{Has, AreDistinct}
use Rattle.term_core.specs.Term.{IsTerm, IsStatement}
use Rattle.triple_keys.specs.declared.key.Ids.{Ids}
use Rattle.triple_keys.specs.Keys.{AreIds}
use Rattle.change_model.specs.declared.history.Kind.{Kind}
use Rattle.change_model.specs.declared.history.Kind.TheVariants.{Add, Remove}
use Rattle.change_model.specs.declared.history.Committed.{Committed}
use Rattle.change_model.specs.History.{History, bound_at}
use Rattle.change_model.specs.Lexicon.{same_term, with_term, with_terms, terms_of, brought, terms_at, known_after, lexicon_at, HasId, HaveIds}
use Rattle.change_model.specs.IndexRows.{AppearsAt}
use Rattle.change_model.specs.Laws.{IsWritable}
use Rattle.change_model.proofs.Members.{slice_get-append, slice_get-last, slice_get_below, place_of, at_place, one_place, Has-append, Has-told, AreDistinct-push, Has-from_map, each_of, AllByRecursion-front}
use Rattle.change_model.proofs.Terms.{term-told, same_statement, list_any-Decides, terms_of-each, IsStatement-bound}

-- the second list begins with the first
abbrev pub Grown : List Term → List Term → Type 0
Grown known grown = (rest : List Term) × (grown ≡ known ++ rest)

pub Grown-itself : (known : List Term) → Grown known known
Grown-itself known = ([], sym (append-nil known))

pub Grown-chain : (a b c : List Term) → Grown a b → Grown b c → Grown a c
Grown-chain a b c (one, is) (other, same) = (one ++ other, same ∙ ap (λ xs. xs ++ other) is ∙ append_assoc a one other)

pub Grown-has : (a b : List Term) (term : Term) → Grown a b → Has a term → Has b term
Grown-has a b term (rest, is) h = subst (λ xs. Has xs term) (sym is) ((Has-append a rest term).1 (inl h))

-- the grown list is distinct where the first is, and has the terms of both
pub record AreWith (known terms grown : List Term) : Type 0 where
  pub grows : Grown known grown
  pub distinct : AreDistinct known → AreDistinct grown
  pub has : (term : Term) → Has terms term → Has grown term
  pub only : (term : Term) → Has grown term → Has known term ⊎ Has terms term

one_more : (t : Bool) (known : List Term) (term : Term) → Decides t (Has known term)
    → AreWith known (term ∷ []) (if t then known else known ++ term ∷ [])
one_more true known term d = record {
  grows = Grown-itself known;
  distinct = λ apart. apart;
  has = λ other h. elim h [ inl same ↦ subst (Has known) same (d.0 refl) | inr none ↦ absurd none ];
  only = λ other h. inl h;
}
one_more false known term d = record {
  grows = (term ∷ [], refl);
  distinct = λ apart. AreDistinct-push known term apart (λ h. false≢true (d.1 h));
  has = λ other h. (Has-append known (term ∷ []) other).1 (inr h);
  only = λ other h. (Has-append known (term ∷ []) other).0 h;
}

pub AreWith-one : (known : List Term) (term : Term) → AreWith known (term ∷ []) (with_term known term)
AreWith-one known term = one_more (list_any (same_term term) known) known term (list_any-Decides term known)

pub AreWith-all : (known terms : List Term) → AreWith known terms (with_terms known terms)
AreWith-all known [] = record {
  grows = Grown-itself known;
  distinct = λ apart. apart;
  has = λ other h. absurd h;
  only = λ other h. inl h;
}
AreWith-all known (term ∷ terms) =
    let one = AreWith-one known term in
    let all = AreWith-all (with_term known term) terms in
    record {
      grows = Grown-chain known (with_term known term) _ one.grows all.grows;
      distinct = λ apart. all.distinct (one.distinct apart);
      has = λ other h. elim h [
        | inl same ↦ Grown-has (with_term known term) _ other all.grows (one.has other (inl same))
        | inr more ↦ all.has other more
      ];
      only = λ other h. elim (all.only other h) [
        | inl before ↦ elim (one.only other before) [ inl old ↦ inl old | inr new ↦ elim new [ inl same ↦ inr (inl same) | inr none ↦ absurd none ] ]
        | inr more ↦ inr (inr more)
      ];
    }

known_after-grown : (entry : Option Committed) (time : ℕ) (known : List Term) → Grown known (known_after entry time known)
known_after-grown None time known = Grown-itself known
known_after-grown (Some committed) time known = (AreWith-all known (terms_at time committed.change)).grows

known_after-distinct : (entry : Option Committed) (time : ℕ) (known : List Term) → AreDistinct known → AreDistinct (known_after entry time known)
known_after-distinct None time known apart = apart
known_after-distinct (Some committed) time known apart = (AreWith-all known (terms_at time committed.change)).distinct apart

pub lexicon-step : (history : History) (k : ℕ) → Grown (lexicon_at history k) (lexicon_at history (suc k))
lexicon-step history k = known_after-grown (slice_get history k) (suc k) (lexicon_at history k)

-- the lexicon grows
pub lexicon-grown : (history : History) (j k : ℕ) → j ≤ k → Grown (lexicon_at history j) (lexicon_at history k)
lexicon-grown history zero k up = (lexicon_at history k, refl)
lexicon-grown history (suc j) zero up = absurd (omega arith)
lexicon-grown history (suc j) (suc k) up =
    elim (cases_lt j k) [
      | inl before ↦ Grown-chain _ (lexicon_at history k) _ (lexicon-grown history (suc j) k before) (lexicon-step history k)
      | inr past ↦ let same : j ≡ k = omega arith in
          subst (λ n. Grown (lexicon_at history (suc j)) (lexicon_at history (suc n))) same (Grown-itself (lexicon_at history (suc j)))
    ]

pub lexicon-longer : (history : History) (j k : ℕ) → j ≤ k → length (lexicon_at history j) ≤ length (lexicon_at history k)
lexicon-longer history j k up =
    let grown = lexicon-grown history j k up in
    let long : length (lexicon_at history k) ≡ length (lexicon_at history j ++ grown.0) = ap length grown.1 in
    omega (arith, length-append (lexicon_at history j) grown.0)

-- no term stands in the lexicon twice
pub lexicon-distinct : (history : History) (k : ℕ) → AreDistinct (lexicon_at history k)
lexicon-distinct history zero = tt
lexicon-distinct history (suc k) = known_after-distinct (slice_get history k) (suc k) (lexicon_at history k) (lexicon-distinct history k)

-- later changes leave the lexicon of a time as it was
pub lexicon_at-append : (history more : History) (k : ℕ) → k ≤ length history → lexicon_at (history ++ more) k ≡ lexicon_at history k
lexicon_at-append history more zero within = refl
lexicon_at-append history more (suc k) within =
    ap (λ entry. known_after entry (suc k) (lexicon_at (history ++ more) k)) (slice_get-append history more k within)
    ∙ ap (known_after (slice_get history k) (suc k)) (lexicon_at-append history more k (omega arith))

-- the lexicon after one more change
pub lexicon_at-one_more : (history : History) (committed : Committed)
    → lexicon_at (history ++ committed ∷ []) (suc (length history)) ≡ with_terms (lexicon_at history (length history)) (terms_at (suc (length history)) committed.change)
lexicon_at-one_more history committed =
    let n = length history in
    ap (λ entry. known_after entry (suc n) (lexicon_at (history ++ committed ∷ []) n)) (slice_get-last history committed)
    ∙ ap (λ known. with_terms known (terms_at (suc n) committed.change)) (lexicon_at-append history (committed ∷ []) n (omega arith))

-- a term of the lexicon has an id
pub HasId-some : (history : History) (k : ℕ) (term : Term) → Has (lexicon_at history k) term → (id : ℕ) × HasId history k term id
HasId-some history k term h = let at = place_of (lexicon_at history k) term h in (suc at.0, (at.0, at.1, refl))

pub HasId-has : (history : History) (k : ℕ) (term : Term) (id : ℕ) → HasId history k term id → Has (lexicon_at history k) term
HasId-has history k term id (place, at, is) = at_place (lexicon_at history k) place term at

-- an id is at most the lexicon's length
pub HasId-at_most : (history : History) (k : ℕ) (term : Term) (id : ℕ) → HasId history k term id → (0 < id) × (id ≤ length (lexicon_at history k))
HasId-at_most history k term id (place, at, is) =
    let below : place < length (lexicon_at history k) = slice_get_within (lexicon_at history k) place term at in (omega arith, omega arith)

-- each number from 1 to the lexicon's length is the id of a term
pub HasId-of : (history : History) (k id : ℕ) → 0 < id → id ≤ length (lexicon_at history k) → (term : Term) × HasId history k term id
HasId-of history k zero some low = absurd (omega arith)
HasId-of history k (suc place) some low = let at = slice_get_below (lexicon_at history k) place low in (at.0, (place, at.1, refl))

-- whether a term has an id
pub HasId-told : (history : History) (k : ℕ) (term : Term) → ((id : ℕ) × HasId history k term id) ⊎ ((id : ℕ) → HasId history k term id → ⊥)
HasId-told history k term =
    elim (Has-told term-told (lexicon_at history k) term) [
      | inl has ↦ inl (HasId-some history k term has)
      | inr none ↦ inr (λ id has. none (HasId-has history k term id has))
    ]

-- a term keeps its id
pub HasId-grown : (history : History) (j k : ℕ) (term : Term) (id : ℕ) → j ≤ k → HasId history j term id → HasId history k term id
HasId-grown history j k term id up (place, at, is) =
    let grown = lexicon-grown history j k up in
    let below = slice_get_within (lexicon_at history j) place term at in
    (place, ap (λ xs. slice_get xs place) grown.1 ∙ slice_get-append (lexicon_at history j) grown.0 place below ∙ at, is)

-- an id within an earlier lexicon was given by then
pub HasId-earlier : (history : History) (j k : ℕ) (term : Term) (id : ℕ) → j ≤ k → HasId history k term id → id ≤ length (lexicon_at history j) → HasId history j term id
HasId-earlier history j k term id up (place, at, is) low =
    let grown = lexicon-grown history j k up in
    (place, sym (slice_get-append (lexicon_at history j) grown.0 place (omega arith)) ∙ sym (ap (λ xs. slice_get xs place) grown.1) ∙ at, is)

one_term : (history : History) (k : ℕ) (a b : Term) (id : ℕ) → HasId history k a id → HasId history k b id → a ≡ b
one_term history k a b id (place, at, is) (other, there, same) =
    let e : other ≡ place = omega arith in
    same_Some a b (sym at ∙ ap (slice_get (lexicon_at history k)) (sym e) ∙ there)

one_id : (history : History) (k : ℕ) (a : Term) (id other : ℕ) → HasId history k a id → HasId history k a other → id ≡ other
one_id history k a id other (place, at, is) (second, there, same) =
    is ∙ ap suc (one_place (lexicon_at history k) place second a (lexicon-distinct history k) at there) ∙ sym same

-- an id is that of one term, at any two times
pub HasId-one_term : (history : History) (j k : ℕ) (a b : Term) (id : ℕ) → HasId history j a id → HasId history k b id → a ≡ b
HasId-one_term history j k a b id one other =
    elim (cases_lt j k) [
      | inl before ↦ one_term history k a b id (HasId-grown history j k a id (omega arith) one) other
      | inr past ↦ one_term history j a b id one (HasId-grown history k j b id past other)
    ]

-- a term has one id, at any two times
pub HasId-one_id : (history : History) (j k : ℕ) (a : Term) (id other : ℕ) → HasId history j a id → HasId history k a other → id ≡ other
HasId-one_id history j k a id other one second =
    elim (cases_lt j k) [
      | inl before ↦ one_id history k a id other (HasId-grown history j k a id (omega arith) one) second
      | inr past ↦ one_id history j a id other one (HasId-grown history k j a other past second)
    ]

-- and so do the ids of a time
pub HasId-append : (history more : History) (k : ℕ) (term : Term) (id : ℕ) → k ≤ length history → (HasId (history ++ more) k term id ↔ HasId history k term id)
HasId-append history more k term id within = rw (lexicon_at-append history more k within) (λ has. has, λ has. has)

-- the same of the three terms of a statement
pub HaveIds-grown : (history : History) (j k : ℕ) (statement : Statement) (ids : Ids) → j ≤ k → HaveIds history j statement ids → HaveIds history k statement ids
HaveIds-grown history j k statement ids up have = record {
  subject = HasId-grown history j k _ _ up have.subject;
  predicate = HasId-grown history j k _ _ up have.predicate;
  object = HasId-grown history j k _ _ up have.object;
}

pub HaveIds-append : (history more : History) (k : ℕ) (statement : Statement) (ids : Ids) → k ≤ length history
    → (HaveIds (history ++ more) k statement ids ↔ HaveIds history k statement ids)
HaveIds-append history more k statement ids within =
    let s = HasId-append history more k statement.subject ids.subject within in
    let p = HasId-append history more k statement.predicate ids.predicate within in
    let o = HasId-append history more k statement.object ids.object within in (
      λ have. record { subject = s.0 have.subject; predicate = p.0 have.predicate; object = o.0 have.object },
      λ have. record { subject = s.1 have.subject; predicate = p.1 have.predicate; object = o.1 have.object },
    )

pub HaveIds-one_statement : (history : History) (j k : ℕ) (a b : Statement) (ids : Ids) → HaveIds history j a ids → HaveIds history k b ids → a ≡ b
HaveIds-one_statement history j k a b ids one other =
    same_statement a b
    (HasId-one_term history j k _ _ _ one.subject other.subject)
    (HasId-one_term history j k _ _ _ one.predicate other.predicate)
    (HasId-one_term history j k _ _ _ one.object other.object)

pub HaveIds-one_ids : (history : History) (j k : ℕ) (statement : Statement) (ids other : Ids) → HaveIds history j statement ids → HaveIds history k statement other → ids ≡ other
HaveIds-one_ids history j k statement ids other one second =
    let s = HasId-one_id history j k _ _ _ one.subject second.subject in
    let p = HasId-one_id history j k _ _ _ one.predicate second.predicate in
    let o = HasId-one_id history j k _ _ _ one.object second.object in
    λ i. record { subject = s i; predicate = p i; object = o i }

-- whether a statement that has ids had them by an earlier time
pub HaveIds-told : (history : History) (j k : ℕ) (statement : Statement) (ids : Ids) → j ≤ k → HaveIds history k statement ids
    → HaveIds history j statement ids ⊎ (HaveIds history j statement ids → ⊥)
HaveIds-told history j k statement ids up have =
    let n = length (lexicon_at history j) in
    elim (cases_lt n ids.subject) [
      | inl above ↦ inr (λ early. absurd (omega (arith, (HasId-at_most history j _ _ early.subject).1)))
      | inr s ↦ elim (cases_lt n ids.predicate) [
        | inl above ↦ inr (λ early. absurd (omega (arith, (HasId-at_most history j _ _ early.predicate).1)))
        | inr p ↦ elim (cases_lt n ids.object) [
          | inl above ↦ inr (λ early. absurd (omega (arith, (HasId-at_most history j _ _ early.object).1)))
          | inr o ↦ inl (record {
            subject = HasId-earlier history j k _ _ up have.subject s;
            predicate = HasId-earlier history j k _ _ up have.predicate p;
            object = HasId-earlier history j k _ _ up have.object o;
          })
        ]
      ]
    ]

-- the front of a history that a store may have is one too
pub IsWritable-front : (history more : History) → IsWritable (history ++ more) → IsWritable history
IsWritable-front history more writable =
    let long = length-append history more in
    let same : length (lexicon_at (history ++ more) (length history)) ≡ length (lexicon_at history (length history)) =
    ap length (lexicon_at-append history more (length history) (omega arith)) in
    let longer = lexicon-longer (history ++ more) (length history) (length (history ++ more)) (omega arith) in
    record {
      statements = AllByRecursion-front (λ committed. AllByRecursion IsStatement committed.change.statements) history more writable.statements;
      times = omega (arith, writable.times);
      ids = omega (arith, writable.ids);
    }

-- the ids of a history that a store may have fit 64 bits
pub HasId-fits : (history : History) (k : ℕ) (term : Term) (id : ℕ) → IsWritable history → k ≤ length history → HasId history k term id → id < 2 ^ 64
HasId-fits history k term id writable within has =
    let low = (HasId-at_most history k term id has).1 in
    let longer = lexicon-longer history k (length history) within in
    omega (arith, writable.ids)

pub AreIds-from : (history : History) (k : ℕ) (statement : Statement) (ids : Ids) → IsWritable history → k ≤ length history → HaveIds history k statement ids → AreIds ids
AreIds-from history k statement ids writable within have = (
  HasId-fits history k _ _ writable within have.subject,
  HasId-fits history k _ _ writable within have.predicate,
  HasId-fits history k _ _ writable within have.object,
)

abbrev pub AreStatements : Committed → Type 0
AreStatements committed = AllByRecursion IsStatement committed.change.statements

-- the time and the statements of a change of a history that a store may have
pub IsWritable-at : (history : History) (k : ℕ) (committed : Committed) → IsWritable history → slice_get history k ≡ Some committed → (suc k < 2 ^ 64) × AreStatements committed
IsWritable-at history k committed writable at =
    let below = slice_get_within history k committed at in
    (omega (arith, writable.times), each_of AreStatements history committed writable.statements (at_place history k committed at))

-- the terms that a change brings keep the rules
brought-terms : (kind : Kind) (time : ℕ) (statements : List Statement) → time < 2 ^ 64 → AllByRecursion IsStatement statements
    → (term : Term) → Has (brought kind (terms_of (map (bound_at time) statements))) term → IsTerm term
brought-terms Add time statements small all term h =
    terms_of-each IsTerm (map (bound_at time) statements)
    (λ bound there. let from = Has-from_map (bound_at time) statements bound there in
    let is = subst IsStatement from.2 (IsStatement-bound time from.0 small (each_of IsStatement statements from.0 all from.1)) in
    (is.subject, is.predicate, is.object))
    term h
brought-terms Remove time statements small all term h = absurd h

known_after-terms : (entry : Option Committed) (time : ℕ) (known : List Term)
    → ((committed : Committed) → entry ≡ Some committed → (time < 2 ^ 64) × AreStatements committed)
    → ((term : Term) → Has known term → IsTerm term) → (term : Term) → Has (known_after entry time known) term → IsTerm term
known_after-terms None time known fits before term h = before term h
known_after-terms (Some committed) time known fits before term h =
    let fit = fits committed refl in
    elim ((AreWith-all known (terms_at time committed.change)).only term h) [
      | inl old ↦ before term old
      | inr new ↦ brought-terms committed.change.kind time committed.change.statements fit.0 fit.1 term new
    ]

-- the terms of the lexicon keep the rules
pub lexicon-terms : (history : History) (k : ℕ) → IsWritable history → (term : Term) → Has (lexicon_at history k) term → IsTerm term
lexicon-terms history zero writable term h = absurd h
lexicon-terms history (suc k) writable term h =
    known_after-terms (slice_get history k) (suc k) (lexicon_at history k)
    (λ committed at. IsWritable-at history k committed writable at)
    (lexicon-terms history k writable) term h

pub HasId-IsTerm : (history : History) (k : ℕ) (term : Term) (id : ℕ) → IsWritable history → HasId history k term id → IsTerm term
HasId-IsTerm history k term id writable has = lexicon-terms history k writable term (HasId-has history k term id has)

-- a term appears in a change
known_after-some : (entry : Option Committed) (time : ℕ) (known : List Term) → length known < length (known_after entry time known) → (committed : Committed) × (entry ≡ Some committed)
known_after-some None time known longer = absurd (omega arith)
known_after-some (Some committed) time known longer = (committed, refl)

pub AppearsAt-within : (history : History) (k : ℕ) (term : Term) (id : ℕ) → AppearsAt history k term id → k < length history
AppearsAt-within history k term id appears =
    let low = (HasId-at_most history (suc k) term id appears.has).1 in
    let there = known_after-some (slice_get history k) (suc k) (lexicon_at history k) (omega (arith, appears.new)) in
    slice_get_within history k there.0 there.1

-- an id appears once
pub AppearsAt-one : (history : History) (j k : ℕ) (term other : Term) (id second : ℕ) → AppearsAt history j term id → AppearsAt history k other second → id ≡ second → j ≡ k
AppearsAt-one history j k term other id second one two same =
    let low = (HasId-at_most history (suc j) term id one.has).1 in
    let small = (HasId-at_most history (suc k) other second two.has).1 in
    let new = one.new in
    let fresh = two.new in
    elim (cases_lt j k) [
      | inl before ↦ let longer = lexicon-longer history (suc j) k before in absurd (omega arith)
      | inr past ↦ elim (cases_lt k j) [
        | inl after ↦ let longer = lexicon-longer history (suc k) j after in absurd (omega arith)
        | inr within ↦ omega arith
      ]
    ]

-- a term that has an id appeared by then
pub AppearsAt-by : (history : History) (k : ℕ) (term : Term) (id : ℕ) → HasId history k term id → (j : ℕ) × AppearsAt history j term id × (j < k)
AppearsAt-by history zero term id (place, at, is) = absurd (none-some term at)
AppearsAt-by history (suc k) term id has =
    elim (cases_lt (length (lexicon_at history k)) id) [
      | inl new ↦ (k, record { has = has; new = new }, omega arith)
      | inr old ↦ let rest = AppearsAt-by history k term id (HasId-earlier history k (suc k) term id (omega arith) has old) in (rest.0, rest.1, omega (arith, rest.2))
    ]
