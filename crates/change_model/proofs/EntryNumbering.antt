-- How a numbering goes on with one more term.
use Rattle.std.proofs.Common.{◌≡◌, ℕ, zero, suc, ◌+◌, ◌-◌, ◌<◌, ◌≤◌, Bool, true, false, cond, List, [], ◌∷◌, ◌++◌, length, Option, Some, None, ◌⊎◌, inl, inr, ◌↔◌, refl, sym, ◌∙◌, ap, subst, arith, append_assoc, length-append, Bor}
use Rattle.std.specs.Option.{option_copied, IfSome}
use Rattle.std.specs.List.{slice_get, AllByRecursion}
use Rattle.std.proofs.lemmas.Bool.{false≢true}
use Rattle.std.proofs.lemmas.Option.{none-some, same_Some}
use Rattle.std.specs.Cmp.Lexicographic.{bytes_decides}
use Rattle.term_core.specs.declared.term.Term.{Term}
use Rattle.term_core.specs.declared.term.Term.TheVariants.{Iri, Literal, Tagged, Blank}
use Rattle.base_core.specs.Lists.{Has}
use Rattle.term_core.specs.Term.{IsTerm}
use Rattle.term_core.specs.Spelling.{spelling}
use Rattle.change_model.specs.declared.numbering.NewTerm.{NewTerm}
use Rattle.change_model.specs.History.{bound_term}
use Rattle.change_model.specs.Lexicon.{same_text, with_term}
use Rattle.change_model.specs.Numbering.{HasIdIn, IsIdIn, new_terms, IsNumbering, IsUnlabelled, IsNext, IsGiving, IsGiven}
use Rattle.change_model.proofs.Members.{slice_get-last, length-one_more, place_of, at_place}
use Rattle.change_model.proofs.VocabularyTerms.{with_term-known, with_term-new, with_term-keeps, grown_place}

-- where an element of a longer list stands
last_place : {A : Type 0} → (xs : List A) (last y : A) (place : ℕ) → slice_get (xs ++ (last ∷ [])) place ≡ Some y
    → (slice_get xs place ≡ Some y) ⊎ ((place ≡ length xs) × (last ≡ y))
last_place [] last y zero e = inr (refl, same_Some last y e)
last_place [] last y (suc place) e = absurd (none-some y e)
last_place (x ∷ xs) last y zero e = inl e
last_place (x ∷ xs) last y (suc place) e = elim (last_place xs last y place e) [ inl before ↦ inl before | inr here ↦ inr (ap suc here.0, here.1) ]

front_place : {A : Type 0} → (xs ys : List A) (y : A) (place : ℕ) → slice_get (xs ++ ys) place ≡ Some y
    → (slice_get xs place ≡ Some y) ⊎ (length xs ≤ place)
front_place [] ys y place e = inr (omega arith)
front_place (x ∷ xs) ys y zero e = inl e
front_place (x ∷ xs) ys y (suc place) e = elim (front_place xs ys y place e) [ inl before ↦ inl before | inr behind ↦ inr (omega (arith, behind)) ]

pub each_push : {A : Type 0} (P : A → Type 0) (xs : List A) (x : A) → AllByRecursion P xs → P x → AllByRecursion P (xs ++ (x ∷ []))
each_push P [] x all here = (here, tt)
each_push P (first ∷ xs) x all here = (all.0, each_push P xs x all.1 here)

-- a term with an id stands among the terms
pub stands : (known : List Term) (term : Term) (id : ℕ) → HasIdIn known term id → Has known term
stands known term id has = at_place known has.0 term has.1

pub HasIdIn-grown : (known : List Term) (more term : Term) (id : ℕ) → HasIdIn known term id → HasIdIn (with_term known more) term id
HasIdIn-grown known more term id has = (has.0, with_term-keeps known more has.0 term has.1, has.2)

-- a term keeps its id where more terms are known
pub from_base : (base known : List Term) (term : Term) (id : ℕ) → (new : List Term) × (known ≡ base ++ new) → HasIdIn base term id → HasIdIn known term id
from_base base known term id grown has =
    (has.0, subst (λ (ts : List Term). slice_get ts has.0 ≡ Some term) (sym grown.1) (grown_place base grown.0 has.0 term has.1), has.2)

-- ---- the terms that were brought

-- one more of them
new_terms-push : (number : ℕ) (terms : List Term) (term : Term) (id : ℕ) → id ≡ suc (number + length terms)
    → new_terms number (terms ++ (term ∷ [])) ≡ new_terms number terms ++ (record { key = spelling term; id = id } ∷ [])
new_terms-push number [] term id is = let same : suc number ≡ id = omega arith in λ i. record { key = spelling term; id = same i } ∷ []
new_terms-push number (first ∷ terms) term id is = ap (λ rest. record { key = spelling first; id = suc number } ∷ rest) (new_terms-push (suc number) terms term id (omega arith))

-- the spelling of a known term that is not among the first ones, and its id
pub record IsBrought (base known : List Term) (entry : NewTerm) : Type 0 where
  pub term : Term
  pub has : HasIdIn known term entry.id
  pub new : length base < entry.id
  pub spelled : entry.key ≡ spelling term

-- a brought term stands at its place behind so many
record IsNewAt (number : ℕ) (terms : List Term) (entry : NewTerm) : Type 0 where
  place : ℕ
  term : Term
  at : slice_get terms place ≡ Some term
  id_is : entry.id ≡ suc (number + place)
  spelled : entry.key ≡ spelling term

new_at : (number : ℕ) (terms : List Term) (entry : NewTerm) → Has (new_terms number terms) entry → IsNewAt number terms entry
new_at number [] entry h = absurd h
new_at number (term ∷ terms) entry (inl same) =
    record { place = 0; term = term; at = refl; id_is = let e = ap (λ (n : NewTerm). n.id) same in omega arith; spelled = sym (ap (λ (n : NewTerm). n.key) same) }
new_at number (term ∷ terms) entry (inr more) =
    let rest = new_at (suc number) terms entry more in
    record { place = suc rest.place; term = rest.term; at = rest.at; id_is = let e = rest.id_is in omega arith; spelled = rest.spelled }

new_has : (number : ℕ) (terms : List Term) (entry : NewTerm) (place : ℕ) (term : Term) → slice_get terms place ≡ Some term → entry.id ≡ suc (number + place) → entry.key ≡ spelling term
    → Has (new_terms number terms) entry
new_has number [] entry place term at id spelled = absurd (none-some term at)
new_has number (first ∷ terms) entry zero term at id spelled =
    let key : spelling first ≡ entry.key = ap spelling (same_Some first term at) ∙ sym spelled in
    let same : suc number ≡ entry.id = omega arith in
    inl (λ i. record { key = key i; id = same i })
new_has number (first ∷ terms) entry (suc place) term at id spelled = inr (new_has (suc number) terms entry place term at (omega arith) spelled)

behind : (xs ys : List Term) (place : ℕ) → slice_get (xs ++ ys) (length xs + place) ≡ slice_get ys place
behind [] ys place = ap (slice_get ys) (let e : 0 + place ≡ place = omega arith in e)
behind (x ∷ xs) ys place = ap (slice_get (x ∷ (xs ++ ys))) (let e : suc (length xs) + place ≡ suc (length xs + place) = omega arith in e) ∙ behind xs ys place

-- they are the known ones that are not among the first
pub brought_told : (base known : List Term) (number : ℕ) (brought : List NewTerm) → IsNumbering base known number brought → (entry : NewTerm)
    → (Has brought entry ↔ IsBrought base known entry)
brought_told base known number brought is entry = (
  λ h.
      let at = new_at (length base) is.grown.0 entry (subst (λ (es : List NewTerm). Has es entry) is.entries h) in
      let there : slice_get known (length base + at.place) ≡ Some at.term = ap (λ ts. slice_get ts (length base + at.place)) is.grown.1 ∙ behind base is.grown.0 at.place ∙ at.at in
      record { term = at.term; has = (length base + at.place, there, at.id_is); new = let e = at.id_is in omega arith; spelled = at.spelled },
  λ b.
      let place = b.has.0 - length base in
      let e = b.has.2 in
      let new = b.new in
      let whole : length base + place ≡ b.has.0 = omega arith in
      let there : slice_get is.grown.0 place ≡ Some b.term =
      sym (behind base is.grown.0 place) ∙ ap (slice_get (base ++ is.grown.0)) whole ∙ ap (λ ts. slice_get ts b.has.0) (sym is.grown.1) ∙ b.has.1 in
      subst (λ (es : List NewTerm). Has es entry) (sym is.entries) (new_has (length base) is.grown.0 entry place b.term there (omega arith) b.spelled),
)

-- ---- one more term

-- a new term
record IsNumbered (base known : List Term) (term : Term) (id : ℕ) (brought : List NewTerm) : Type 0 where
  terms : with_term known term ≡ known ++ (term ∷ [])
  has : HasIdIn (known ++ (term ∷ [])) term id
  numbering : IsNumbering base (known ++ (term ∷ [])) id brought

numbered_new : (base known : List Term) (term : Term) (key : List ℕ) (number id : ℕ) (brought after : List NewTerm) → IsTerm term → key ≡ spelling term → (Has known term → ⊥)
    → id ≡ number + 1 → after ≡ brought ++ (record { key = key; id = id } ∷ []) → IsNumbering base known number brought → IsNumbered base known term id after
numbered_new base known term key number id brought after rules spelled new next put is =
    let long : id ≡ suc (length base + length is.grown.0) = let e = is.count in omega (arith, ap length is.grown.1, length-append base is.grown.0) in
    let last : id ≡ suc (length known) = let e = is.count in omega arith in
    record {
      terms = with_term-new known term new;
      has = (length known, slice_get-last known term, last);
      numbering = record {
        grown = (is.grown.0 ++ (term ∷ []), ap (λ ts. ts ++ (term ∷ [])) is.grown.1 ∙ append_assoc base is.grown.0 (term ∷ []));
        rules = each_push IsTerm known term is.rules rules;
        count = last ∙ sym (length-one_more known term);
        entries = put ∙ (λ i. is.entries i ++ (record { key = spelled i; id = id } ∷ [])) ∙ sym (new_terms-push (length base) is.grown.0 term id long);
      };
    }

-- a term that was known before
unchanged : (base known : List Term) (time : ℕ) (term : Term) (id number : ℕ) (brought : List NewTerm) (nodes : List ℕ → Option ℕ)
    → HasIdIn known (bound_term time term) id → IsGiving base known time number brought nodes → IsGiven base known time term id number brought nodes
unchanged base known time term id number brought nodes has is =
    let same = sym (with_term-known known (bound_term time term) (stands known (bound_term time term) id has)) in
    record {
      given = subst (λ (ts : List Term). HasIdIn ts (bound_term time term) id) same has;
      giving = subst (λ (ts : List Term). IsGiving base ts time number brought nodes) same is;
    }

-- what another term has, it still has
other_id : (known : List Term) (term q : Term) (id : Option ℕ) → (term ≡ q → ⊥) → IsIdIn known q id → IsIdIn (known ++ (term ∷ [])) q id
other_id known term q None apart none = λ id has.
    elim (last_place known term q has.0 has.1) [ inl before ↦ none id (has.0, before, has.2) | inr last ↦ apart last.1 ]
other_id known term q (Some id) apart has = (has.0, grown_place known (term ∷ []) has.0 q has.1, has.2)

pub unlabelled_is : (time : ℕ) (term : Term) → IsUnlabelled term → bound_term time term ≡ term
unlabelled_is time (Iri iri) plain = refl
unlabelled_is time (Literal form datatype) plain = refl
unlabelled_is time (Tagged form tag) plain = refl
unlabelled_is time (Blank at label) plain = absurd plain

no_node : (time : ℕ) (term : Term) (label : List ℕ) → IsUnlabelled term → term ≡ Blank time label → ⊥
no_node time term label plain same = subst IsUnlabelled same plain

-- a term without a label that had its id before
pub given_known : (base known : List Term) (time : ℕ) (term : Term) (id number : ℕ) (brought : List NewTerm) (nodes : List ℕ → Option ℕ)
    → IsNext base known time term (Some id) → IsGiving base known time number brought nodes → IsGiven base known time term id number brought nodes
given_known base known time term id number brought nodes next is =
    unchanged base known time term id number brought nodes (from_base base known (bound_term time term) id is.numbering.grown next.id_is) is

-- a term without a label that has none yet
pub given_new : (base known : List Term) (time : ℕ) (term : Term) (key : List ℕ) (number id : ℕ) (brought after : List NewTerm) (nodes : List ℕ → Option ℕ)
    → IsUnlabelled term → key ≡ spelling term → id ≡ number + 1 → after ≡ brought ++ (record { key = key; id = id } ∷ [])
    → IsNext base known time term None → IsGiving base known time number brought nodes → IsGiven base known time term id id after nodes
given_new base known time term key number id brought after nodes plain spelled next put comes is =
    let bound = unlabelled_is time term plain in
    let new : Has known term → ⊥ = λ h.
    let place = place_of base term (comes.once plain h) in comes.id_is (suc place.0) (place.0, place.1 ∙ ap Some (sym bound), refl) in
    let made = numbered_new base known term key number id brought after (subst IsTerm bound comes.rules) spelled new next put is.numbering in
    let given : HasIdIn (with_term known term) term id × IsGiving base (with_term known term) time id after nodes =
    subst (λ (ts : List Term). HasIdIn ts term id × IsGiving base ts time id after nodes) (sym made.terms)
    (made.has, record { numbering = made.numbering; nodes_are = λ label. other_id known term (Blank time label) (nodes label) (no_node time term label plain) (is.nodes_are label) }) in
    let all : HasIdIn (with_term known (bound_term time term)) (bound_term time term) id × IsGiving base (with_term known (bound_term time term)) time id after nodes =
    subst (λ (t : Term). HasIdIn (with_term known t) t id × IsGiving base (with_term known t) time id after nodes) (sym bound) given in
    record { given = all.0; giving = all.1 }

-- a label that another term bears too
pub given_found : (base known : List Term) (time : ℕ) (label : List ℕ) (id number : ℕ) (brought : List NewTerm) (nodes : List ℕ → Option ℕ)
    → Some id ≡ nodes label → IsGiving base known time number brought nodes → IsGiven base known time (Blank time label) id number brought nodes
given_found base known time label id number brought nodes found is =
    unchanged base known time (Blank time label) id number brought nodes (subst (IsIdIn known (Blank time label)) (sym found) (is.nodes_are label)) is

labels_same : (time : ℕ) (label q : List ℕ) → Blank time label ≡ Blank time q → label ≡ q
labels_same time label q same = cc

node_by : (known : List Term) (time : ℕ) (label q : List ℕ) (id : ℕ) (old : Option ℕ) (b : Bool) → same_text label q ≡ b → HasIdIn (known ++ (Blank time label ∷ [])) (Blank time label) id
    → IsIdIn known (Blank time q) old → IsIdIn (known ++ (Blank time label ∷ [])) (Blank time q) (cond b (Some id) old)
node_by known time label q id old true e has is = subst (λ (l : List ℕ). HasIdIn (known ++ (Blank time label ∷ [])) (Blank time l) id) ((bytes_decides label q).0 e) has
node_by known time label q id old false e has is =
    other_id known (Blank time label) (Blank time q) old (λ same. false≢true (sym e ∙ (bytes_decides label q).1 (labels_same time label q same))) is

-- a label that is new
pub given_node : (base known : List Term) (time : ℕ) (label key : List ℕ) (number id : ℕ) (brought after : List NewTerm) (nodes more : List ℕ → Option ℕ)
    → IsTerm (Blank time label) → key ≡ spelling (Blank time label) → id ≡ number + 1 → after ≡ brought ++ (record { key = key; id = id } ∷ [])
    → None ≡ nodes label → ((q : List ℕ) → more q ≡ cond (same_text label q) (Some id) (nodes q))
    → IsGiving base known time number brought nodes → IsGiven base known time (Blank time label) id id after more
given_node base known time label key number id brought after nodes more rules spelled next put absent told is =
    let node = Blank time label in
    let none : IsIdIn known node None = subst (IsIdIn known node) (sym absent) (is.nodes_are label) in
    let new : Has known node → ⊥ = λ h. let place = place_of known node h in none (suc place.0) (place.0, place.1, refl) in
    let made = numbered_new base known node key number id brought after rules spelled new next put is.numbering in
    let all : HasIdIn (with_term known node) node id × IsGiving base (with_term known node) time id after more =
    subst (λ (ts : List Term). HasIdIn ts node id × IsGiving base ts time id after more) (sym made.terms) (
      made.has,
      record {
        numbering = made.numbering;
        nodes_are = λ q. subst (IsIdIn (known ++ (node ∷ [])) (Blank time q)) (sym (told q)) (node_by known time label q id (nodes q) (same_text label q) refl made.has (is.nodes_are q));
      },
    ) in
    record { given = all.0; giving = all.1 }

-- the count by another name
pub counted_as : (base known : List Term) (time : ℕ) (term : Term) (id number count : ℕ) (brought : List NewTerm) (nodes : List ℕ → Option ℕ) → count ≡ number
    → IsGiven base known time term id number brought nodes → IsGiven base known time term id count brought nodes
counted_as base known time term id number count brought nodes same is = subst (λ (n : ℕ). IsGiven base known time term id n brought nodes) (sym same) is

-- a label of any time is bound to this one
pub bound_alike : (base known : List Term) (time at : ℕ) (term : Term) (label : List ℕ) (id number : ℕ) (brought : List NewTerm) (nodes : List ℕ → Option ℕ) → term ≡ Blank at label
    → IsGiven base known time (Blank time label) id number brought nodes → IsGiven base known time term id number brought nodes
bound_alike base known time at term label id number brought nodes same is =
    subst (λ (t : Term). IsGiven base known time t id number brought nodes) (sym same) (record { given = is.given; giving = is.giving })

pub node_rules : (base known : List Term) (time at : ℕ) (term : Term) (label : List ℕ) (id : Option ℕ) → term ≡ Blank at label → IsNext base known time term id → IsTerm (Blank time label)
node_rules base known time at term label id same next = subst (λ (t : Term). IsTerm (bound_term time t)) same next.rules

-- a reference that shows a value
pub shown_is : {T : Type 0} (found : Option (Bor T)) (value : T) → option_copied found ≡ Some value → IfSome found (λ shown. shown.now ≡ value)
shown_is None value e = tt
shown_is (Some shown) value e = same_Some shown.now value e
