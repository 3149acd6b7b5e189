-- The set of the spellings that were read.
use Rattle.std.proofs.Common.{◌≡◌, ℕ, Bool, true, false, cond, not, List, [], ◌∷◌, ◌++◌, map, ◌⊎◌, ◌↔◌, inl, inr, refl, sym, ◌∙◌, ap, subst, Decides}
use Rattle.std.specs.BTreeMap.{is_at}
use Rattle.std.specs.Cmp.{tied_itself, Equal-is}
use Rattle.std.specs.Cmp.Lexicographic.{slice_cmp, nat_list_cmp_total}
use Rattle.std.specs.List.{list_any, AllByRecursion}
use Rattle.std.specs.Ordering.{nat_cmp}
use Rattle.std.proofs.lemmas.Bool.{false≢true}
use Rattle.std.proofs.lemmas.Bool.Decides.{Decides-or, Decides-like}
use Rattle.std.proofs.lemmas.Map.Lookups.{exact_bytes}
use Rattle.term_core.specs.declared.term.Term.{Term}
use Rattle.base_core.specs.Lists.{Has}
use Rattle.term_core.specs.Spelling.{spelling}
use Rattle.term_core.proofs.Spelling.{spelling_same}
use Rattle.change_model.specs.declared.history.Kind.{Kind}
use Rattle.change_model.proofs.Members.{Has-append, Has-map, Has-from_map, each_of}
use Rattle.body_codec.specs.Body.{IsTermOf}
use Rattle.body_codec.specs.Reading.{AreSpellings}

-- whether the key is one of the keys, as a set tells it
abbrev pub has_key : List (List ℕ) → List ℕ → Bool
has_key keys key = list_any (is_at (slice_cmp nat_cmp key)) keys

tied-Decides : (a b : List ℕ) → Decides (is_at (slice_cmp nat_cmp a) b) (a ≡ b)
tied-Decides a b = (
  λ e. exact_bytes a b ((Equal-is _).0 e),
  λ same. subst (λ x. is_at (slice_cmp nat_cmp a) x ≡ true) same ((Equal-is _).1 (tied_itself nat_list_cmp_total a)),
)

has_key-Decides : (keys : List (List ℕ)) (key : List ℕ) → Decides (has_key keys key) (Has keys key)
has_key-Decides [] key = (λ e. absurd (false≢true e), λ h. absurd h)
has_key-Decides (first ∷ keys) key =
    Decides-like _
    (λ h. elim h [ inl same ↦ inl (sym same) | inr more ↦ inr more ])
    (λ h. elim h [ inl same ↦ inl (sym same) | inr more ↦ inr more ])
    (Decides-or _ _ (tied-Decides key first) (has_key-Decides keys key))

-- after an insert
more_by : (b before after : Bool) {P Q R : Type 0} → Decides b P → Decides before Q → Decides after R → after ≡ cond b true before → (R ↔ (Q ⊎ P))
more_by true before after p q r is = (λ h. inr (p.0 refl), λ h. r.0 is)
more_by false before after p q r is = (
  λ h. inl (q.0 (sym is ∙ r.1 h)),
  λ h. elim h [ inl old ↦ r.0 (is ∙ q.1 old) | inr new ↦ absurd (false≢true (p.1 new)) ],
)

pub seen_more : (old new : List (List ℕ)) (key : List ℕ) → ((q : List ℕ) → has_key new q ≡ cond (is_at (slice_cmp nat_cmp key) q) true (has_key old q))
    → (q : List ℕ) → Has new q ↔ (Has old q ⊎ (key ≡ q))
seen_more old new key told q = more_by _ _ _ (tied-Decides key q) (has_key-Decides old q) (has_key-Decides new q) (told q)

true_unless : (b : Bool) → false ≡ not b → b ≡ true
true_unless true e = refl
true_unless false e = absurd (false≢true e)

false_if : (b : Bool) → true ≡ not b → b ≡ false
false_if true e = absurd (false≢true (sym e))
false_if false e = refl

-- what an insert tells: the key was there, or it wasn't
pub was_seen : (keys : List (List ℕ)) (key : List ℕ) → false ≡ not (has_key keys key) → Has keys key
was_seen keys key e = (has_key-Decides keys key).0 (true_unless _ e)

pub was_new : (keys : List (List ℕ)) (key : List ℕ) → true ≡ not (has_key keys key) → Has keys key → ⊥
was_new keys key e h = false≢true (sym (false_if _ e) ∙ (has_key-Decides keys key).1 h)

-- ---- the spellings of terms

map-one_more : (terms : List Term) (term : Term) → map spelling (terms ++ term ∷ []) ≡ map spelling terms ++ spelling term ∷ []
map-one_more [] term = refl
map-one_more (first ∷ terms) term = ap (λ l. spelling first ∷ l) (map-one_more terms term)

pub AreSpellings-more : (terms : List Term) (term : Term) (old new : List (List ℕ)) → AreSpellings terms old
    → ((spelled : List ℕ) → Has new spelled ↔ (Has old spelled ⊎ (spelling term ≡ spelled))) → AreSpellings (terms ++ term ∷ []) new
AreSpellings-more terms term old new are told spelled =
    let both = Has-append (map spelling terms) (spelling term ∷ []) spelled in
    let step = told spelled in
    subst (λ l. Has new spelled ↔ Has l spelled) (sym (map-one_more terms term)) (
      λ h. both.1 (elim (step.0 h) [ inl early ↦ inl ((are spelled).0 early) | inr last ↦ inr (inl last) ]),
      λ h. elim (both.0 h) [ inl early ↦ step.1 (inl ((are spelled).1 early)) | inr last ↦ elim last [ inl same ↦ step.1 (inr same) | inr none ↦ absurd none ] ],
    )

-- a term whose spelling is new is new
pub new_term : (terms : List Term) (term : Term) (keys : List (List ℕ)) → AreSpellings terms keys → (Has keys (spelling term) → ⊥) → Has terms term → ⊥
new_term terms term keys are new h = new ((are (spelling term)).1 (Has-map spelling terms term h))

-- a term whose spelling was seen stands among the terms
pub seen_term : (kind : Kind) (terms : List Term) (term : Term) (keys : List (List ℕ)) → AllByRecursion (IsTermOf kind) terms → IsTermOf kind term
    → AreSpellings terms keys → Has keys (spelling term) → Has terms term
seen_term kind terms term keys all is are seen =
    let from = Has-from_map spelling terms (spelling term) ((are (spelling term)).0 seen) in
    let other = each_of (IsTermOf kind) terms from.0 all from.1 in
    subst (Has terms) (spelling_same from.0 term other.is is.is from.2) from.1
