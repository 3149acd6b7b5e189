-- Two readings of the same bytes agree as far as both go.
use Rattle.std.proofs.Common.{◌≡◌, ℕ, suc, ◌+◌, ◌<◌, ◌≤◌, ◌^◌, List, [], ◌∷◌, ◌++◌, length, sym, ◌∙◌, ap, subst, append_assoc, length-append, arith}
use Rattle.base_core.specs.Numbers.{length_bytes}
use Rattle.std.specs.List.{flat_map, AllByRecursion}
use Rattle.std.proofs.lemmas.List.{append-nil}
use Rattle.term_core.specs.declared.term.Term.{Term}
use Rattle.term_core.proofs.Spelling.{first_same, rest_same}
use Rattle.change_model.specs.declared.history.Kind.{Kind}
use Rattle.change_model.specs.declared.vocabulary.Places.{Places}
use Rattle.body_codec.specs.Body.{kind_byte, term_field, statement_field, head_and_terms, IsTermOf}
use Rattle.body_codec.specs.Faults.{BeginWithTerms, BeginWithStatements}
use Rattle.body_codec.proofs.Cuts.{AreFront, fields_cut, number_same, term_same, statement_same, kind_same, ArePlacings-small}

-- ---- fronts

-- the next element behind a front
pub record IsNextOf {A : Type 0} (f : A → List ℕ) (xs ys : List A) (us vs : List ℕ) : Type 0 where
  pub next : A
  pub more : List A
  pub split : ys ≡ xs ++ next ∷ more
  pub rest : us ≡ f next ++ (flat_map f more ++ vs)

next_by : {A : Type 0} (f : A → List ℕ) (xs ys more : List A) (us vs : List ℕ) → ys ≡ xs ++ more → us ≡ flat_map f more ++ vs → length xs < length ys → IsNextOf f xs ys us vs
next_by f xs ys [] us vs split rest longer = let same : length ys ≡ length xs = ap length (split ∙ append-nil xs) in absurd (omega arith)
next_by f xs ys (next ∷ more) us vs split rest longer =
    record { next = next; more = more; split = split; rest = rest ∙ append_assoc (f next) (flat_map f more) vs }

pub next_of : {A : Type 0} (f : A → List ℕ) (xs ys : List A) (us vs : List ℕ) → AreFront f xs ys us vs → length xs < length ys → IsNextOf f xs ys us vs
next_of f xs ys us vs front longer = next_by f xs ys front.more us vs front.split front.rest longer

-- a front of the same length is all
pub record AreSame {A : Type 0} (xs ys : List A) (us vs : List ℕ) : Type 0 where
  pub list : xs ≡ ys
  pub rest : us ≡ vs

same_by : {A : Type 0} (f : A → List ℕ) (xs ys more : List A) (us vs : List ℕ) → ys ≡ xs ++ more → us ≡ flat_map f more ++ vs → length xs ≡ length ys → AreSame xs ys us vs
same_by f xs ys [] us vs split rest long = record { list = sym (split ∙ append-nil xs); rest = rest }
same_by f xs ys (next ∷ more) us vs split rest long =
    let whole : length ys ≡ length xs + suc (length more) = ap length split ∙ length-append xs (next ∷ more) in absurd (omega arith)

pub same_of : {A : Type 0} (f : A → List ℕ) (xs ys : List A) (us vs : List ℕ) → AreFront f xs ys us vs → length xs ≡ length ys → AreSame xs ys us vs
same_of f xs ys us vs front long = same_by f xs ys front.more us vs front.split front.rest long

-- ---- terms

-- the fields in front of the terms
pub record SameHead (kind other : Kind) (count size : ℕ) (us vs : List ℕ) : Type 0 where
  pub kind_is : kind ≡ other
  pub count_is : count ≡ size
  pub rest : us ≡ vs

pub terms_agree : (bytes : List ℕ) (kind other : Kind) (count size : ℕ) (terms more : List Term) (us vs : List ℕ)
    → BeginWithTerms bytes kind count terms us → BeginWithTerms bytes other size more vs
    → SameHead kind other count size (flat_map term_field terms ++ us) (flat_map term_field more ++ vs)
terms_agree bytes kind other count size terms more us vs one two =
    let whole : head_and_terms kind count terms ++ us ≡ head_and_terms other size more ++ vs = sym one.cut ∙ two.cut in
    let kinds = rest_same 1 1 (kind_byte kind ∷ (length_bytes count ++ (flat_map term_field terms ++ us))) (kind_byte other ∷ (length_bytes size ++ (flat_map term_field more ++ vs))) whole in
    let counts = rest_same (kind_byte kind) (kind_byte other) (length_bytes count ++ (flat_map term_field terms ++ us)) (length_bytes size ++ (flat_map term_field more ++ vs)) kinds in
    let numbers = number_same count size _ _ one.fits two.fits counts in
    record {
      kind_is = kind_same kind other (first_same (kind_byte kind) (kind_byte other) _ _ kinds);
      count_is = numbers.0;
      rest = numbers.1;
    }

pub terms_front : (bytes : List ℕ) (kind other : Kind) (count size : ℕ) (terms more : List Term) (us vs : List ℕ)
    → BeginWithTerms bytes kind count terms us → BeginWithTerms bytes other size more vs → length terms ≤ length more
    → AreFront term_field terms more us vs
terms_front bytes kind other count size terms more us vs one two long =
    let head = terms_agree bytes kind other count size terms more us vs one two in
    let each : AllByRecursion (IsTermOf kind) more = subst (λ k. AllByRecursion (IsTermOf k) more) (sym head.kind_is) two.are.each in
    fields_cut term_field (IsTermOf kind) (term_same kind) terms more us vs one.are.each each long head.rest

-- ---- statements

abbrev pub statements_behind : List Places → ℕ → List ℕ → List ℕ
statements_behind placed count rest = length_bytes count ++ (flat_map statement_field placed ++ rest)

pub begin_terms : (bytes : List ℕ) (kind : Kind) (terms : List Term) (count : ℕ) (placed : List Places) (rest : List ℕ)
    → BeginWithStatements bytes kind terms count placed rest → BeginWithTerms bytes kind (length terms) terms (statements_behind placed count rest)
begin_terms bytes kind terms count placed rest begin = record {
  cut = begin.cut ∙ append_assoc (head_and_terms kind (length terms) terms) (length_bytes count ++ flat_map statement_field placed) rest;
  fits = begin.fits;
  are = begin.are;
}

pub record SameTerms (kind other : Kind) (terms more : List Term) (count size : ℕ) (us vs : List ℕ) : Type 0 where
  pub kind_is : kind ≡ other
  pub terms_are : terms ≡ more
  pub count_is : count ≡ size
  pub rest : us ≡ vs

pub statements_agree : (bytes : List ℕ) (kind other : Kind) (terms more : List Term) (count size : ℕ) (placed ones : List Places) (us vs : List ℕ)
    → BeginWithStatements bytes kind terms count placed us → BeginWithStatements bytes other more size ones vs
    → SameTerms kind other terms more count size (flat_map statement_field placed ++ us) (flat_map statement_field ones ++ vs)
statements_agree bytes kind other terms more count size placed ones us vs one two =
    let first = begin_terms bytes kind terms count placed us one in
    let second = begin_terms bytes other more size ones vs two in
    let head = terms_agree bytes kind other (length terms) (length more) terms more _ _ first second in
    let long : length terms ≤ length more = let same = head.count_is in omega arith in
    let all = same_of term_field terms more _ _ (terms_front bytes kind other (length terms) (length more) terms more _ _ first second long) head.count_is in
    let low : count < 2 ^ 32 = let few = one.few in omega arith in
    let small : size < 2 ^ 32 = let few = two.few in omega arith in
    let numbers = number_same count size (flat_map statement_field placed ++ us) (flat_map statement_field ones ++ vs) low small all.rest in
    record { kind_is = head.kind_is; terms_are = all.list; count_is = numbers.0; rest = numbers.1 }

pub statements_front : (bytes : List ℕ) (kind other : Kind) (terms more : List Term) (count size : ℕ) (placed ones : List Places) (us vs : List ℕ)
    → BeginWithStatements bytes kind terms count placed us → BeginWithStatements bytes other more size ones vs → length placed ≤ length ones
    → AreFront statement_field placed ones us vs
statements_front bytes kind other terms more count size placed ones us vs one two long =
    let head = statements_agree bytes kind other terms more count size placed ones us vs one two in
    fields_cut statement_field _ statement_same placed ones us vs (ArePlacings-small terms [] placed one.fits one.placed) (ArePlacings-small more [] ones two.fits two.placed) long head.rest
