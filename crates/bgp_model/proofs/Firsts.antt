-- A list in which each element stands where it first stood, as it grows by one element, and the query's terms gathered so.
use Rattle.std.proofs.Common.{◌≡◌, Bool, true, false, cond, not, ◌||◌, List, [], ◌∷◌, ◌++◌, filter, ◌↔◌, inl, inr, refl, sym, ap, subst, ◌∙◌, append_assoc}
use Rattle.std.specs.declared.cmp.Ordering.{Ordering}
use Rattle.std.specs.declared.cmp.Ordering.TheVariants.{Equal}
use Rattle.std.specs.Ordering.{is_eq}
use Rattle.std.specs.List.{flat_map, list_any}
use Rattle.std.specs.BTreeSet.{insert_key}
use Rattle.std.specs.Cmp.{IsTotalOrder, tied_itself, Equal-is}
use Rattle.std.proofs.lemmas.Bool.{or_cases}
use Rattle.std.proofs.lemmas.List.Elements.{filter-append}
use Rattle.std.proofs.lemmas.Map.Lookups.{CmpEqualImpliesEq}
use Rattle.pattern_core.proofs.Members.{Has-push}
use Rattle.term_core.specs.declared.term.Term.{Term}
use Rattle.base_core.specs.Lists.{Has}
use Rattle.term_core.specs.contracts.term.TermOrd.TheImpl as term_ord
use Rattle.term_core.specs.contracts.term.TermOrd.TheImpl.Laws.{total-law}
use Rattle.bgp_model.specs.declared.query.Pattern.{Pattern}
use Rattle.bgp_model.specs.QueryTerms.{same_term, fixed_in, all_terms, firsts}
use Rattle.bgp_model.specs.GatheredTerms.{fixed_in_pattern, IsGathered}
use Rattle.bgp_model.proofs.Exact.{is_equality, exact_term, Has-insert_key}

-- ---- a set's test

or_first : (a b : Bool) → a ≡ true → (a || b) ≡ true
or_first true b e = refl
or_first false b e = cc

or_second : (a b : Bool) → b ≡ true → (a || b) ≡ true
or_second true b e = refl
or_second false b e = e

-- a key is found where the set has it
found_has : {K : Type 0} (R : K → K → Ordering) → IsTotalOrder R → CmpEqualImpliesEq R → (ks : List K) (k : K) → (list_any (λ x. is_eq (R k x)) ks ≡ true) ↔ Has ks k
found_has R total exact [] k = (λ e. cc, λ h. absurd h)
found_has R total exact (x ∷ ks) k =
    let more = found_has R total exact ks k in (
      λ e. elim (or_cases _ _ e) [ inl here ↦ inl (sym (exact k x ((Equal-is (R k x)).0 here))) | inr later ↦ inr (more.0 later) ],
      λ h. elim h [
        | inl same ↦ or_first (is_eq (R k x)) _ (ap is_eq (subst (λ y. R k y ≡ Equal) (sym same) (tied_itself total k)))
        | inr later ↦ or_second (is_eq (R k x)) _ (more.1 later)
      ],
    )

pub found_term : (ks : List Term) (term : Term) → (list_any (λ x. is_eq ((term_ord.ghosts).cmp term x)) ks ≡ true) ↔ Has ks term
found_term = found_has (term_ord.ghosts).cmp total-law exact_term

-- ---- one element more

filter_step : {A : Type 0} (p q : A → Bool) (b c : Bool) (x : A) (xs : List A) → p x ≡ b → q x ≡ c → filter p (filter q xs) ≡ filter q (filter p xs)
    → filter p (cond c (x ∷ filter q xs) (filter q xs)) ≡ filter q (cond b (x ∷ filter p xs) (filter p xs))
filter_step p q true true x xs e f same = ap (λ b. cond b (x ∷ filter p (filter q xs)) (filter p (filter q xs))) e ∙ ap (λ ys. x ∷ ys) same
    ∙ sym (ap (λ c. cond c (x ∷ filter q (filter p xs)) (filter q (filter p xs))) f)
filter_step p q true false x xs e f same = same ∙ sym (ap (λ c. cond c (x ∷ filter q (filter p xs)) (filter q (filter p xs))) f)
filter_step p q false true x xs e f same = ap (λ b. cond b (x ∷ filter p (filter q xs)) (filter p (filter q xs))) e ∙ same
filter_step p q false false x xs e f same = same

filter_swap : {A : Type 0} (p q : A → Bool) (xs : List A) → filter p (filter q xs) ≡ filter q (filter p xs)
filter_swap p q [] = refl
filter_swap p q (x ∷ xs) = filter_step p q (p x) (q x) x xs refl refl (filter_swap p q xs)

-- what the test drops may as well not be there
firsts_dropped : (p : Term → Bool) (xs : List Term) (x : Term) → p x ≡ false → filter p (firsts (xs ++ x ∷ [])) ≡ filter p (firsts xs)
firsts_dropped p [] x drops = ap (λ b. cond b (x ∷ []) []) drops
firsts_dropped p (y ∷ xs) x drops =
    let other : Term → Bool = λ z. not (same_term y z) in
    let rest : filter p (filter other (firsts (xs ++ x ∷ []))) ≡ filter p (filter other (firsts xs)) =
    filter_swap p other (firsts (xs ++ x ∷ [])) ∙ ap (filter other) (firsts_dropped p xs x drops) ∙ sym (filter_swap p other (firsts xs)) in
    ap (λ zs. cond (p y) (y ∷ zs) zs) rest

-- in the tail, whether its first element is the one or not
old_step : (y : Term) (xs : List Term) (x : Term) (b : Bool) → same_term y x ≡ b → Has (y ∷ xs) x → (Has xs x → firsts (xs ++ x ∷ []) ≡ firsts xs)
    → filter (λ z. not (same_term y z)) (firsts (xs ++ x ∷ [])) ≡ filter (λ z. not (same_term y z)) (firsts xs)
old_step y xs x true e has before = firsts_dropped (λ z. not (same_term y z)) xs x (ap not e)
old_step y xs x false e has before = ap (filter (λ z. not (same_term y z))) (before (elim has [
  | inl is ↦ (let t : same_term y x ≡ true = (is_equality y x).1 is in cc)
  | inr later ↦ later
]))

-- an element that the list has stands already
firsts_old : (xs : List Term) (x : Term) → Has xs x → firsts (xs ++ x ∷ []) ≡ firsts xs
firsts_old [] x has = absurd has
firsts_old (y ∷ xs) x has = ap (λ zs. y ∷ zs) (old_step y xs x (same_term y x) refl has (firsts_old xs x))

differs : (a b : Term) (t : Bool) → same_term a b ≡ t → (a ≡ b → ⊥) → t ≡ false
differs a b true e out = absurd (out ((is_equality a b).0 e))
differs a b false e out = refl

-- one that it hasn't stands behind
firsts_new : (xs : List Term) (x : Term) → (Has xs x → ⊥) → firsts (xs ++ x ∷ []) ≡ firsts xs ++ x ∷ []
firsts_new [] x out = refl
firsts_new (y ∷ xs) x out =
    let other : Term → Bool = λ z. not (same_term y z) in
    let stays : same_term y x ≡ false = differs y x (same_term y x) refl (λ e. out (inl e)) in
    ap (λ zs. y ∷ zs)
    (ap (filter other) (firsts_new xs x (λ h. out (inr h))) ∙ filter-append other (firsts xs) (x ∷ [])
    ∙ ap (λ b. filter other (firsts xs) ++ cond (not b) (x ∷ []) []) stays)

-- ---- the terms gathered

pub gathered_old : (before terms seen : List Term) (term : Term) → Has seen term → IsGathered before terms seen → IsGathered (before ++ term ∷ []) terms seen
gathered_old before terms seen term has so_far =
    let stands = (so_far.members term).0 has in record {
      order = so_far.order ∙ sym (firsts_old before term stands);
      members = λ other.
          let push = Has-push before term other in (
            λ h. push.1 (inl ((so_far.members other).0 h)),
            λ h. (so_far.members other).1 (elim (push.0 h) [ inl i ↦ i | inr e ↦ subst (Has before) e stands ]),
          );
    }

pub gathered_new : (before terms seen more added : List Term) (term : Term) → (Has seen term → ⊥) → more ≡ terms ++ term ∷ [] → added ≡ insert_key (term_ord.ghosts).cmp seen term
    → IsGathered before terms seen → IsGathered (before ++ term ∷ []) more added
gathered_new before terms seen more added term out pushed inserted so_far = record {
  order = pushed ∙ ap (λ ts. ts ++ term ∷ []) so_far.order ∙ sym (firsts_new before term (λ h. out ((so_far.members term).1 h)));
  members = λ other.
      let push = Has-push before term other in
      let insert = Has-insert_key (term_ord.ghosts).cmp exact_term seen term other in (
        λ h. push.1 (elim (insert.0 (subst (λ ks. Has ks other) inserted h)) [ inl i ↦ inl ((so_far.members other).0 i) | inr e ↦ inr e ]),
        λ h. subst (λ ks. Has ks other) (sym inserted) (insert.1 (elim (push.0 h) [ inl i ↦ inl ((so_far.members other).1 i) | inr e ↦ inr e ])),
      );
}

-- pattern by pattern they are all
pub all_gathered : (patterns : List Pattern) → flat_map fixed_in_pattern patterns ≡ all_terms patterns
all_gathered [] = refl
all_gathered (pattern ∷ patterns) =
    ap (λ rest. fixed_in_pattern pattern ++ rest) (all_gathered patterns)
    ∙ append_assoc (fixed_in pattern.subject) (fixed_in pattern.predicate ++ fixed_in pattern.object) (all_terms patterns)
    ∙ ap (λ rest. fixed_in pattern.subject ++ rest) (append_assoc (fixed_in pattern.predicate) (fixed_in pattern.object) (all_terms patterns))
