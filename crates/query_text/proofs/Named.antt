-- Names get their places as they come, and keep them whatever names follow; that is numbering by first appearance.
use Rattle.std.proofs.Common.{◌≡◌, ℕ, suc, ◌+◌, ◌<◌, Bool, true, false, cond, List, [], ◌∷◌, ◌++◌, length, map, take, get_or, Option, Some, None, option_map, refl, sym, ap, subst, ◌∙◌, append_assoc, nat_eq, nat_cmp, arith}
use Rattle.std.specs.BTreeMap.{BTreeMap, get, is_at}
use Rattle.std.specs.Cmp.Lexicographic.{pointwise, slice_cmp, texts_ties, bytes_decides}
use Rattle.std.proofs.lemmas.List.{append-nil, map-append, take_more}
use Rattle.std.proofs.lemmas.List.Concat.{flat_map-append}
use Rattle.bgp_model.specs.declared.query.Slot.{Slot}
use Rattle.bgp_model.specs.declared.query.Pattern.{Pattern}
use Rattle.query_text.specs.declared.token.Token.{Token as Found}
use Rattle.query_text.specs.declared.class.Declaration.{Declaration as Declared}
use Rattle.query_text.specs.declared.phase.Triple.{Triple as RawTriple}
use Rattle.query_text.specs.Grammar.{Node, Triple}
use Rattle.query_text.specs.Meaning.{place_of, slot_of, pattern_of, from_triples, variables_of_node, labels_of_node}
use Rattle.query_text.specs.Building.{known_place, behind_known, with_name, with_names, KnowsNames, names_said, name_text, IsSlot, IsPattern, ArePatterns, of_triple, triple_said}

-- ---- where a name stands

abbrev pub or_place : Option ℕ → Option ℕ → Option ℕ
or_place None other = other
or_place (Some place) other = Some place

abbrev pub at_end : Bool → ℕ → Option ℕ
at_end b n = cond b (Some n) None

none_some : {n : ℕ} → None ≡ Some n → ⊥
none_some e = cc

some_same : {m n : ℕ} → Some m ≡ Some n → m ≡ n
some_same e = cc

same_name : (name : List ℕ) → pointwise nat_eq name name ≡ true
same_name name = (bytes_decides name name).1 refl

shifted : (found : Option ℕ) (b : Bool) (n : ℕ) → option_map suc (or_place found (at_end b n)) ≡ or_place (option_map suc found) (at_end b (suc n))
shifted None true n = refl
shifted None false n = refl
shifted (Some place) b n = refl

pub known_place-append : (names : List (List ℕ)) (name q : List ℕ)
    → known_place (names ++ name ∷ []) q ≡ or_place (known_place names q) (at_end (pointwise nat_eq name q) (length names))
known_place-append [] name q = by (pointwise nat_eq name q)
  where
    by : (b : Bool) → cond b (Some 0) (option_map suc None) ≡ at_end b 0
    by true = refl
    by false = refl
known_place-append (other ∷ names) name q =
    by (pointwise nat_eq other q) (ap (option_map suc) (known_place-append names name q) ∙ shifted (known_place names q) (pointwise nat_eq name q) (length names))
  where
    by : (b : Bool) → option_map suc (known_place (names ++ name ∷ []) q) ≡ or_place (option_map suc (known_place names q)) (at_end (pointwise nat_eq name q) (suc (length names)))
        → cond b (Some 0) (option_map suc (known_place (names ++ name ∷ []) q))
        ≡ or_place (cond b (Some 0) (option_map suc (known_place names q))) (at_end (pointwise nat_eq name q) (suc (length names)))
    by true e = refl
    by false e = e

-- a new name stands last
pub known_place-last : (names : List (List ℕ)) (name : List ℕ) → known_place names name ≡ None → known_place (names ++ name ∷ []) name ≡ Some (length names)
known_place-last names name new =
    known_place-append names name name ∙ ap (λ (f : Option ℕ). or_place f (at_end (pointwise nat_eq name name) (length names))) new
    ∙ ap (λ (b : Bool). at_end b (length names)) (same_name name)

-- the map knows one more name
pub KnowsNames-more : (names new : List (List ℕ)) (before after : BTreeMap (List ℕ) ℕ) (name key : List ℕ) (place : ℕ) → KnowsNames names before
    → None ≡ get (slice_cmp nat_cmp) before name → key ≡ name → place ≡ length names → new ≡ names ++ name ∷ []
    → ((q : List ℕ) → get (slice_cmp nat_cmp) after q ≡ cond (is_at (slice_cmp nat_cmp key) q) (Some place) (get (slice_cmp nat_cmp) before q))
    → KnowsNames new after
KnowsNames-more names new before after name key place knows absent same at grown told q =
    told q
    ∙ ap (λ (k : List ℕ). cond (is_at (slice_cmp nat_cmp k) q) (Some place) (get (slice_cmp nat_cmp) before q)) same
    ∙ ap (λ (b : Bool). cond b (Some place) (get (slice_cmp nat_cmp) before q)) (sym (texts_ties name q))
    ∙ ap (λ (n : ℕ). cond (pointwise nat_eq name q) (Some n) (get (slice_cmp nat_cmp) before q)) at
    ∙ ap (λ (f : Option ℕ). cond (pointwise nat_eq name q) (Some (length names)) f) (knows q)
    ∙ by (pointwise nat_eq name q) (known_place names q) here
    ∙ sym (known_place-append names name q)
    ∙ ap (λ (ns : List (List ℕ)). known_place ns q) (sym grown)
  where
    none : known_place names name ≡ None
    none = sym (knows name) ∙ sym absent

    here : pointwise nat_eq name q ≡ true → known_place names q ≡ None
    here b = subst (λ (n : List ℕ). known_place names n ≡ None) ((bytes_decides name q).0 b) none

    by : (b : Bool) (f : Option ℕ) → (b ≡ true → f ≡ None) → cond b (Some (length names)) f ≡ or_place f (at_end b (length names))
    by true None h = refl
    by true (Some place) h = absurd (none_some (sym (h refl)))
    by false None h = refl
    by false (Some place) h = refl

-- the place of a known name, whatever names follow
pub place_of-known : (names more : List (List ℕ)) (name : List ℕ) (place : ℕ) → known_place names name ≡ Some place → place_of (names ++ more) name ≡ place
place_of-known [] more name place e = absurd (none_some e)
place_of-known (other ∷ names) more name place e =
    by (pointwise nat_eq other name) (known_place names name) (λ p k. place_of-known names more name p k) refl e
  where
    by : (b : Bool) (found : Option ℕ) → ((p : ℕ) → known_place names name ≡ Some p → place_of (names ++ more) name ≡ p) → known_place names name ≡ found
        → cond b (Some 0) (option_map suc found) ≡ Some place → cond b 0 (place_of (names ++ more) name + 1) ≡ place
    by true found rest is e = some_same e
    by false None rest is e = absurd (none_some e)
    by false (Some p) rest is e =
        let there : place_of (names ++ more) name ≡ p = rest p is in
        let one : suc p ≡ place = some_same e in
        omega (arith, there, one)

pub known_below : (names : List (List ℕ)) (name : List ℕ) (place : ℕ) → known_place names name ≡ Some place → place < length names
known_below [] name place e = absurd (none_some e)
known_below (other ∷ names) name place e = by (pointwise nat_eq other name) (known_place names name) (λ p k. known_below names name p k) refl e
  where
    by : (b : Bool) (found : Option ℕ) → ((p : ℕ) → known_place names name ≡ Some p → p < length names) → known_place names name ≡ found
        → cond b (Some 0) (option_map suc found) ≡ Some place → place < suc (length names)
    by true found rest is e = let one : 0 ≡ place = some_same e in omega (arith, one)
    by false None rest is e = absurd (none_some e)
    by false (Some p) rest is e =
        let there : p < length names = rest p is in
        let one : suc p ≡ place = some_same e in
        omega (arith, there, one)

-- ---- names only grow

pub record Grown (names longer : List (List ℕ)) : Type 0 where
  pub more : List (List ℕ)
  pub is : longer ≡ names ++ more

grown_by : (found : Option ℕ) (names : List (List ℕ)) (name : List ℕ) → Grown names (behind_known found names name)
grown_by None names name = record { more = name ∷ []; is = refl }
grown_by (Some place) names name = record { more = []; is = sym (append-nil names) }

pub with_names-grown : (names xs : List (List ℕ)) → Grown names (with_names names xs)
with_names-grown names [] = record { more = []; is = sym (append-nil names) }
with_names-grown names (x ∷ xs) =
    let first = grown_by (known_place names x) names x in
    let rest = with_names-grown (with_name names x) xs in
    record { more = first.more ++ rest.more; is = rest.is ∙ ap (λ (ns : List (List ℕ)). ns ++ rest.more) first.is ∙ append_assoc names first.more rest.more }

pub with_names-append : (names xs ys : List (List ℕ)) → with_names names (xs ++ ys) ≡ with_names (with_names names xs) ys
with_names-append names [] ys = refl
with_names-append names (x ∷ xs) ys = with_names-append (with_name names x) xs ys

-- ---- slots and patterns

-- names that follow the longer list follow the shorter one too
longer : (from to : List (List ℕ)) {all : List (List ℕ)} (g : Grown from all) (more : List (List ℕ)) → to ≡ from ++ g.more → from ++ (g.more ++ more) ≡ to ++ more
longer from to g more is = sym (append_assoc from g.more more) ∙ ap (λ (ns : List (List ℕ)). ns ++ more) (sym is)

-- a slot stays right as more names come
pub slot_later : (names labels later others xs ys : List (List ℕ)) (node : Node) (slot : Slot) → IsSlot names labels node slot
    → later ≡ with_names names xs → others ≡ with_names labels ys → IsSlot later others node slot
slot_later names labels later others xs ys node slot is e f = λ more rest.
    is (a.more ++ more) (b.more ++ rest)
    ∙ ap (λ (ns : List (List ℕ)). slot_of ns (labels ++ (b.more ++ rest)) node) (longer names later a more (e ∙ a.is))
    ∙ ap (λ (ns : List (List ℕ)). slot_of (later ++ more) ns node) (longer labels others b rest (f ∙ b.is))
  where
    a : Grown names (with_names names xs)
    a = with_names-grown names xs

    b : Grown labels (with_names labels ys)
    b = with_names-grown labels ys

abbrev pattern : Slot → Slot → Slot → Pattern
pattern s p o = record { subject = s; predicate = p; object = o }

pub pattern_is : (names labels : List (List ℕ)) (t : Triple) (s p o : Slot) → IsSlot names labels t.subject s → IsSlot names labels t.predicate p
    → IsSlot names labels t.object o → IsPattern names labels t (record { subject = s; predicate = p; object = o })
pattern_is names labels t s p o a b d = λ more others.
    ap (λ (x : Slot). pattern x p o) (a more others)
    ∙ ap (λ (x : Slot). pattern (slot_of (names ++ more) (labels ++ others) t.subject) x o) (b more others)
    ∙ ap (λ (x : Slot). pattern (slot_of (names ++ more) (labels ++ others) t.subject) (slot_of (names ++ more) (labels ++ others) t.predicate) x) (d more others)

-- the patterns so far stay right too, and one more is put behind them
pub patterns_more : (names labels later others xs ys : List (List ℕ)) (triples : List Triple) (t : Triple) (patterns all : List Pattern) (one : Pattern)
    → ArePatterns names labels triples patterns → later ≡ with_names names xs → others ≡ with_names labels ys → IsPattern later others t one
    → all ≡ patterns ++ one ∷ [] → ArePatterns later others (triples ++ t ∷ []) all
patterns_more names labels later others xs ys triples t patterns all one are e f is pushed = λ more rest.
    let made = pattern_of (later ++ more) (others ++ rest) in
    pushed
    ∙ ap (λ (ps : List Pattern). ps ++ one ∷ []) (are (a.more ++ more) (b.more ++ rest)
    ∙ ap (λ (ns : List (List ℕ)). map (pattern_of ns (labels ++ (b.more ++ rest))) triples) (longer names later a more (e ∙ a.is))
    ∙ ap (λ (ns : List (List ℕ)). map (pattern_of (later ++ more) ns) triples) (longer labels others b rest (f ∙ b.is)))
    ∙ ap (λ (p : Pattern). map made triples ++ p ∷ []) (is more rest)
    ∙ sym (map-append made triples (t ∷ []))
  where
    a : Grown names (with_names names xs)
    a = with_names-grown names xs

    b : Grown labels (with_names labels ys)
    b = with_names-grown labels ys

-- ---- the steps of loops

-- the names so far, and behind them what one more triple has
pub triples_named : (from : Node → List (List ℕ)) (ds : List Declared) (start old new : List (List ℕ)) (triples : List RawTriple) (i : ℕ) (d : RawTriple)
    → i < length triples → old ≡ with_names start (from_triples from (map (triple_said ds) (take i triples)))
    → new ≡ with_names old (of_triple from (triple_said ds (get_or triples i d)))
    → new ≡ with_names start (from_triples from (map (triple_said ds) (take (i + 1) triples)))
triples_named from ds start old new triples i d within before now =
    let one = triple_said ds (get_or triples i d) in
    let front = map (triple_said ds) (take i triples) in
    now
    ∙ ap (λ (ns : List (List ℕ)). with_names ns (of_triple from one)) before
    ∙ sym (with_names-append start (from_triples from front) (of_triple from one))
    ∙ ap (with_names start) (
    ap (λ (ns : List (List ℕ)). from_triples from front ++ ns) (sym (append-nil (of_triple from one)))
    ∙ sym (flat_map-append (of_triple from) front (one ∷ [])))
    ∙ ap (λ (ts : List Triple). with_names start (from_triples from ts)) (said_more ds triples i d within)
  where
    said_more : (ds : List Declared) (triples : List RawTriple) (i : ℕ) (d : RawTriple) → i < length triples
        → map (triple_said ds) (take i triples) ++ triple_said ds (get_or triples i d) ∷ [] ≡ map (triple_said ds) (take (i + 1) triples)
    said_more ds triples i d within =
        sym (map-append (triple_said ds) (take i triples) (get_or triples i d ∷ [])) ∙ ap (map (triple_said ds)) (sym (take_more triples i d within))

pub patterns_named : (ds : List Declared) (names labels later others : List (List ℕ)) (triples : List RawTriple) (i : ℕ) (d : RawTriple) (patterns all : List Pattern) (one : Pattern)
    → i < length triples → ArePatterns names labels (map (triple_said ds) (take i triples)) patterns
    → later ≡ with_names names (of_triple variables_of_node (triple_said ds (get_or triples i d)))
    → others ≡ with_names labels (of_triple labels_of_node (triple_said ds (get_or triples i d)))
    → IsPattern later others (triple_said ds (get_or triples i d)) one → all ≡ patterns ++ one ∷ []
    → ArePatterns later others (map (triple_said ds) (take (i + 1) triples)) all
patterns_named ds names labels later others triples i d patterns all one within are e f is pushed =
    subst (λ (ts : List Triple). ArePatterns later others ts all)
    (sym (map-append (triple_said ds) (take i triples) (get_or triples i d ∷ [])) ∙ ap (map (triple_said ds)) (sym (take_more triples i d within)))
    (patterns_more names labels later others (of_triple variables_of_node (triple_said ds (get_or triples i d))) (of_triple labels_of_node (triple_said ds (get_or triples i d)))
    (map (triple_said ds) (take i triples)) (triple_said ds (get_or triples i d)) patterns all one are e f is pushed)

-- one more column
pub record AreColumnsSoFar (start names : List (List ℕ)) (said : List (List ℕ)) (places : List ℕ) : Type 0 where
  pub names_are : names ≡ with_names start said
  pub places_are : (more : List (List ℕ)) → places ≡ map (place_of (names ++ more)) said

pub column_more : (start old new : List (List ℕ)) (tokens : List Found) (i : ℕ) (d : Found) (name : List ℕ) (place : ℕ) (places all : List ℕ) → i < length tokens
    → AreColumnsSoFar start old (names_said (take i tokens)) places → name ≡ name_text (get_or tokens i d).characters.now → new ≡ with_name old name
    → known_place new name ≡ Some place → all ≡ places ++ place ∷ [] → AreColumnsSoFar start new (names_said (take (i + 1) tokens)) all
column_more start old new tokens i d name place places all within so_far is grown at pushed =
    subst (λ (ns : List (List ℕ)). AreColumnsSoFar start new ns all) more_said
    (record {
      names_are = grown ∙ ap (λ (ns : List (List ℕ)). with_name ns name) so_far.names_are ∙ sym (with_names-append start front (name ∷ []));
      places_are = λ more.
          pushed
          ∙ ap (λ (ps : List ℕ). ps ++ place ∷ []) (so_far.places_are (g.more ++ more)
          ∙ ap (λ (ns : List (List ℕ)). map (place_of ns) front) (sym (append_assoc old g.more more) ∙ ap (λ (ns : List (List ℕ)). ns ++ more) (sym (grown ∙ g.is))))
          ∙ ap (λ (p : ℕ). map (place_of (new ++ more)) front ++ p ∷ []) (sym (place_of-known new more name place at))
          ∙ sym (map-append (place_of (new ++ more)) front (name ∷ []));
    })
  where
    front : List (List ℕ)
    front = names_said (take i tokens)

    g : Grown old (with_name old name)
    g = grown_by (known_place old name) old name

    more_said : front ++ name ∷ [] ≡ names_said (take (i + 1) tokens)
    more_said =
        ap (λ (n : List ℕ). front ++ n ∷ []) is ∙ sym (map-append (λ (t : Found). name_text t.characters.now) (take i tokens) (get_or tokens i d ∷ []))
        ∙ ap names_said (sym (take_more tokens i d within))
