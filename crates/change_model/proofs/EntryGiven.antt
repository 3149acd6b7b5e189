-- The ids of the terms of a change, one term after the other.
use Rattle.std.proofs.Common.{◌≡◌, ℕ, zero, suc, ◌<◌, ◌≤◌, ◌+◌, List, [], ◌∷◌, ◌++◌, map, length, take, drop, get_or, Option, Some, None, inl, inr, refl, sym, ◌∙◌, ap, subst, arith}
use Rattle.std.specs.List.{slice_get, AllZip}
use Rattle.std.proofs.lemmas.Option.{none-some, same_Some}
use Rattle.std.proofs.lemmas.List.{take_more, take_all, append-nil, map-append, take-append-drop}
use Rattle.std.proofs.lemmas.List.Elements.{All-from_recursion}
use Rattle.std.proofs.lemmas.Slice.Zip.{all_zipped_more}
use Rattle.term_core.specs.declared.term.Term.{Term}
use Rattle.term_core.specs.declared.term.Term.TheVariants.{Iri, Literal, Tagged, Blank}
use Rattle.term_core.specs.Spelling.{spelling}
use Rattle.term_core.specs.Term.{IsTerm}
use Rattle.base_core.specs.Lists.{Has, AreDistinct}
use Rattle.change_model.specs.declared.history.Kind.{Kind}
use Rattle.change_model.specs.declared.history.Kind.TheVariants.{Add, Remove}
use Rattle.change_model.specs.declared.numbering.NewTerm.{NewTerm}
use Rattle.change_model.specs.declared.vocabulary.Vocabulary.{Vocabulary}
use Rattle.change_model.specs.History.{bound_term}
use Rattle.change_model.specs.Lexicon.{with_term, with_terms, brought}
use Rattle.change_model.specs.Numbering.{HasIdIn, IsIdIn, IsBase, BindWell, AreIdsIn, AreIdsAt, AreSpelled, IsNumbering, IsUnlabelled, IsNext, IsGiving, IsGiven}
use Rattle.change_model.proofs.Lexicons.{AreWith-all}
use Rattle.change_model.proofs.Members.{Has-append, Has-from_map}
use Rattle.change_model.proofs.VocabularyTerms.{with_terms-append}
use Rattle.change_model.proofs.EntryNumbering.{stands, HasIdIn-grown}

zip_weaker : {A B : Type 0} (R S : A → B → Type 0) → ((x : A) (y : B) → R x y → S x y) → (xs : List A) (ys : List B) → AllZip R xs ys → AllZip S xs ys
zip_weaker R S weaker [] [] all = tt
zip_weaker R S weaker [] (y ∷ ys) all = all
zip_weaker R S weaker (x ∷ xs) [] all = all
zip_weaker R S weaker (x ∷ xs) (y ∷ ys) all = (weaker x y all.0, zip_weaker R S weaker xs ys all.1)

zip_at : {A B : Type 0} (R : A → B → Type 0) (xs : List A) (ys : List B) (k : ℕ) (d : A) (e : B) → AllZip R xs ys → k < length xs → R (get_or xs k d) (get_or ys k e)
zip_at R [] [] k d e all below = absurd (omega arith)
zip_at R [] (y ∷ ys) k d e all below = absurd all
zip_at R (x ∷ xs) [] k d e all below = absurd all
zip_at R (x ∷ xs) (y ∷ ys) zero d e all below = all.0
zip_at R (x ∷ xs) (y ∷ ys) (suc k) d e all below = zip_at R xs ys k d e all.1 (omega arith)

pub zip_got : {A B : Type 0} (R : A → B → Type 0) (xs : List A) (ys : List B) (k : ℕ) (x : A) (e : B) → AllZip R xs ys → slice_get xs k ≡ Some x → R x (get_or ys k e)
zip_got R [] [] k x e all at = absurd (none-some x at)
zip_got R [] (y ∷ ys) k x e all at = absurd all
zip_got R (first ∷ xs) [] k x e all at = absurd all
zip_got {A} {B} R (first ∷ xs) (y ∷ ys) zero x e all at = subst (λ (v : A). R v y) (same_Some first x at) all.0
zip_got R (first ∷ xs) (y ∷ ys) (suc k) x e all at = zip_got R xs ys k x e all.1 at

pub place_below : {A : Type 0} (xs : List A) (k : ℕ) (y : A) → slice_get xs k ≡ Some y → k < length xs
place_below [] k y e = absurd (none-some y e)
place_below (x ∷ xs) zero y e = omega arith
place_below (x ∷ xs) (suc k) y e = omega (arith, place_below xs k y e)

-- no term is brought yet
pub numbering_base : (base : List Term) (number time : ℕ) (brought : List NewTerm) → IsBase base number time → brought ≡ [] → IsNumbering base base number brought
numbering_base base number time brought is none = record { grown = ([], sym (append-nil base)); rules = is.rules; count = is.count; entries = none }

-- an id that was given
abbrev IsGivenIn : List Term → Term → Option ℕ → Type 0
IsGivenIn known term (Some id) = HasIdIn known term id
IsGivenIn known term None = ⊥

given_is : (known : List Term) (term : Term) (id : Option ℕ) → IsGivenIn known term id → IsIdIn known term id
given_is known term (Some id) given = given
given_is known term None given = absurd given

given_grown : (known : List Term) (more term : Term) (id : Option ℕ) → IsGivenIn known term id → IsGivenIn (with_term known more) term id
given_grown known more term (Some id) given = HasIdIn-grown known more term id given
given_grown known more term None given = given

abbrev pub AreGivenAt : ℕ → List Term → List Term → List (Option ℕ) → Type 0
AreGivenAt time known terms ids = AllZip (λ term id. IsGivenIn known (bound_term time term) id) terms ids

-- the first so many terms have their ids
pub record HaveSoFar (base : List Term) (time : ℕ) (terms : List Term) (i : ℕ) (given : List (Option ℕ)) (number : ℕ) (brought : List NewTerm) (nodes : List ℕ → Option ℕ) : Type 0 where
  pub ids : AreGivenAt time (with_terms base (map (bound_term time) (take i terms))) (take i terms) given
  pub giving : IsGiving base (with_terms base (map (bound_term time) (take i terms))) time number brought nodes

pub have_none : (base : List Term) (time : ℕ) (terms : List Term) (given : List (Option ℕ)) (number : ℕ) (brought : List NewTerm) (nodes : List ℕ → Option ℕ)
    → IsBase base number time → given ≡ [] → brought ≡ [] → ((label : List ℕ) → nodes label ≡ None) → HaveSoFar base time terms 0 given number brought nodes
have_none base time terms given number brought nodes is none empty no_nodes = record {
  ids = subst (AreGivenAt time base []) (sym none) tt;
  giving = record {
    numbering = numbering_base base number time brought is empty;
    nodes_are = λ label. subst (IsIdIn base (Blank time label)) (sym (no_nodes label)) (λ id has. is.earlier label (stands base (Blank time label) id has));
  };
}

-- what is known of the next term
pub next_rules : (time : ℕ) (terms : List Term) (i : ℕ) (term : Term) → BindWell time terms → i < length terms → term ≡ get_or terms i term → IsTerm (bound_term time term)
next_rules time terms i term bind below is =
    subst (λ (t : Term). IsTerm (bound_term time t)) (sym is) (All-from_recursion (λ t. IsTerm (bound_term time t)) terms bind i term below)

pub next_id : (time : ℕ) (base terms : List Term) (ids : List (Option ℕ)) (i : ℕ) (term : Term) (id : Option ℕ) → AreIdsAt time base terms ids → i < length terms → term ≡ get_or terms i term
    → id ≡ get_or ids i None → IsIdIn base (bound_term time term) id
next_id time base terms ids i term id are below is at =
    let here = zip_at (λ t o. IsIdIn base (bound_term time t) o) terms ids i term None are below in
    subst (IsIdIn base (bound_term time term)) (sym at) (subst (λ (t : Term). IsIdIn base (bound_term time t) (get_or ids i None)) (sym is) here)

-- the id of the next term as it stands
pub next_known : (early terms : List Term) (ids : List (Option ℕ)) (i : ℕ) (term : Term) (id : Option ℕ) → AreIdsIn early terms ids → i < length terms → term ≡ get_or terms i term
    → id ≡ get_or ids i None → IsIdIn early term id
next_known early terms ids i term id are below is at =
    let here = zip_at (λ t o. IsIdIn early t o) terms ids i term None are below in
    subst (IsIdIn early term) (sym at) (subst (λ (t : Term). IsIdIn early t (get_or ids i None)) (sym is) here)

-- a distinct list has an element nowhere in front of it
not_in_front : {A : Type 0} → (xs : List A) (y : A) → AreDistinct (xs ++ (y ∷ [])) → Has xs y → ⊥
not_in_front [] y apart h = h
not_in_front (x ∷ xs) y apart (inl same) = apart.0 ((Has-append xs (y ∷ []) x).1 (inr (inl (sym same))))
not_in_front (x ∷ xs) y apart (inr more) = not_in_front xs y apart.1 more

AreDistinct-front : {A : Type 0} → (xs ys : List A) → AreDistinct (xs ++ ys) → AreDistinct xs
AreDistinct-front [] ys apart = tt
AreDistinct-front (x ∷ xs) ys apart = (λ h. apart.0 ((Has-append xs ys x).1 (inl h)), AreDistinct-front xs ys apart.1)

-- a term without a label is bound to no other term
only_itself : (time : ℕ) (other term : Term) → IsUnlabelled term → bound_term time other ≡ term → other ≡ term
only_itself time (Iri iri) term plain same = same
only_itself time (Literal form datatype) term plain same = same
only_itself time (Tagged form tag) term plain same = same
only_itself time (Blank at label) term plain same = absurd (subst IsUnlabelled (sym same) plain)

next_once : (base : List Term) (time : ℕ) (terms : List Term) (i : ℕ) (term : Term) → AreDistinct terms → i < length terms → term ≡ get_or terms i term
    → IsUnlabelled term → Has (with_terms base (map (bound_term time) (take i terms))) term → Has base term
next_once base time terms i term apart below is plain h =
    elim ((AreWith-all base (map (bound_term time) (take i terms))).only term h) [
      | inl before ↦ before
      | inr here ↦
          let from = Has-from_map (bound_term time) (take i terms) term here in
          let more : take (i + 1) terms ≡ take i terms ++ (term ∷ []) = take_more terms i term below ∙ ap (λ t. take i terms ++ (t ∷ [])) (sym is) in
          let front : AreDistinct (take i terms ++ (term ∷ [])) =
          subst AreDistinct more (AreDistinct-front (take (i + 1) terms) (drop (i + 1) terms) (subst AreDistinct (sym (take-append-drop (i + 1) terms)) apart)) in
          absurd (not_in_front (take i terms) term front (subst (Has (take i terms)) (only_itself time from.0 term plain from.2) from.1))
    ]

-- what is known of the next term
pub next_term : (time : ℕ) (base : List Term) (vocabulary : Vocabulary) (ids : List (Option ℕ)) (i : ℕ) (term : Term) (id : Option ℕ) → AreSpelled vocabulary → BindWell time vocabulary.terms
    → AreIdsAt time base vocabulary.terms ids → i < length vocabulary.terms → term ≡ get_or vocabulary.terms i term → id ≡ get_or ids i None
    → IsNext base (with_terms base (map (bound_term time) (take i vocabulary.terms))) time term id
next_term time base vocabulary ids i term id spelled bind are below is at = record {
  rules = next_rules time vocabulary.terms i term bind below is;
  id_is = next_id time base vocabulary.terms ids i term id are below is at;
  once = next_once base time vocabulary.terms i term spelled.apart below is;
}

got_mapped : {A B : Type 0} (f : A → B) (xs : List A) (k : ℕ) (d : A) → k < length xs → slice_get (map f xs) k ≡ Some (f (get_or xs k d))
got_mapped f [] k d below = absurd (omega arith)
got_mapped f (x ∷ xs) zero d below = refl
got_mapped f (x ∷ xs) (suc k) d below = got_mapped f xs k d (omega arith)

-- the spelling that stands at its place
pub next_spelling : (vocabulary : Vocabulary) (i : ℕ) (term : Term) → AreSpelled vocabulary → i < length vocabulary.terms → term ≡ get_or vocabulary.terms i term
    → slice_get vocabulary.spellings i ≡ Some (spelling term)
next_spelling vocabulary i term spelled below is =
    ap (λ ss. slice_get ss i) spelled.spellings ∙ got_mapped spelling vocabulary.terms i term below ∙ ap (λ t. Some (spelling t)) (sym is)

pub have_more : (base : List Term) (time : ℕ) (terms : List Term) (i : ℕ) (term : Term) (given all : List (Option ℕ)) (id number : ℕ) (brought : List NewTerm) (nodes : List ℕ → Option ℕ)
    → i < length terms → term ≡ get_or terms i term
    → AreGivenAt time (with_terms base (map (bound_term time) (take i terms))) (take i terms) given
    → IsGiven base (with_terms base (map (bound_term time) (take i terms))) time term id number brought nodes
    → all ≡ given ++ (Some id ∷ []) → HaveSoFar base time terms (i + 1) all number brought nodes
have_more base time terms i term given all id number brought nodes below is so_far step pushed =
    let f = bound_term time in
    let known = with_terms base (map f (take i terms)) in
    let more : take (i + 1) terms ≡ take i terms ++ (term ∷ []) = take_more terms i term below ∙ ap (λ t. take i terms ++ (t ∷ [])) (sym is) in
    let grown : with_terms base (map f (take (i + 1) terms)) ≡ with_term known (f term) =
    ap (λ ts. with_terms base (map f ts)) more ∙ ap (with_terms base) (map-append f (take i terms) (term ∷ [])) ∙ with_terms-append base (map f (take i terms)) (f term ∷ []) in
    let R = λ (t : Term) (o : Option ℕ). IsGivenIn (with_term known (f term)) (f t) o in
    let old : AllZip R (take i terms) given = zip_weaker (λ t o. IsGivenIn known (f t) o) R (λ t o. given_grown known (f term) (f t) o) (take i terms) given so_far in
    let new : AllZip R (take i terms ++ (term ∷ [])) (given ++ (Some id ∷ [])) = all_zipped_more R (take i terms) given term (Some id) old step.given in
    record {
      ids = subst (λ (ks : List Term). AreGivenAt time ks (take (i + 1) terms) all) (sym grown)
          (subst (AllZip R (take (i + 1) terms)) (sym pushed) (subst (λ (ts : List Term). AllZip R ts (given ++ (Some id ∷ []))) (sym more) new));
      giving = subst (λ (ks : List Term). IsGiving base ks time number brought nodes) (sym grown) step.giving;
    }

-- all terms have their ids
pub have_all : (base : List Term) (time : ℕ) (terms : List Term) (i : ℕ) (given : List (Option ℕ)) (number : ℕ) (brought : List NewTerm) (nodes : List ℕ → Option ℕ) → length terms ≤ i
    → HaveSoFar base time terms i given number brought nodes
    → AreIdsAt time (with_terms base (map (bound_term time) terms)) terms given × IsNumbering base (with_terms base (map (bound_term time) terms)) number brought
have_all base time terms i given number brought nodes end have =
    let whole : take i terms ≡ terms = take_all i terms end in
    let ids = subst (λ (ts : List Term). AreGivenAt time (with_terms base (map (bound_term time) ts)) ts given) whole have.ids in (
      zip_weaker _ _ (λ t o. given_is _ (bound_term time t) o) terms given ids,
      subst (λ (ts : List Term). IsNumbering base (with_terms base (map (bound_term time) ts)) number brought) whole have.giving.numbering,
    )

-- an Add gives ids by the ones that are known already
pub add_tells : (C : List Term → List Term → Type 0) (kind : Kind) (count time : ℕ) (vocabulary : Vocabulary) (known given : List (Option ℕ))
    → kind ≡ Add → given ≡ known
    → ((base : List Term) → IsBase base count time → AreSpelled vocabulary → BindWell time vocabulary.terms → AreIdsAt time base vocabulary.terms given → C base (with_terms base (map (bound_term time) vocabulary.terms)))
    → (base : List Term) → IsBase base count time → AreSpelled vocabulary → BindWell time vocabulary.terms → AreIdsAt time base vocabulary.terms known
    → C base (with_terms base (brought kind (map (bound_term time) vocabulary.terms)))
add_tells C kind count time vocabulary known given add gives tells base base_is spelled bind are =
    let f = bound_term time in
    let all : AreIdsAt time base vocabulary.terms given = subst (AreIdsAt time base vocabulary.terms) (sym gives) are in
    subst (λ (k : Kind). C base (with_terms base (brought k (map f vocabulary.terms)))) (sym add) (tells base base_is spelled bind all)

-- a Remove gives none
pub remove_ids : (kind : Kind) (time : ℕ) (terms : List Term) (known : List (Option ℕ)) → kind ≡ Remove
    → (base : List Term) → AreIdsAt time base terms known → AreIdsAt time (with_terms base (brought kind (map (bound_term time) terms))) terms known
remove_ids kind time terms known remove base are =
    subst (λ (k : Kind). AreIdsAt time (with_terms base (brought k (map (bound_term time) terms))) terms known) (sym remove) are

pub remove_numbering : (kind : Kind) (count time : ℕ) (terms : List Term) (entries : List NewTerm) → kind ≡ Remove → entries ≡ []
    → (base : List Term) → IsBase base count time → IsNumbering base (with_terms base (brought kind (map (bound_term time) terms))) count entries
remove_numbering kind count time terms entries remove none base base_is =
    subst (λ (k : Kind). IsNumbering base (with_terms base (brought k (map (bound_term time) terms))) count entries) (sym remove) (numbering_base base count time entries base_is none)
