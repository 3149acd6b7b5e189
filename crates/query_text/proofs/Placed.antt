-- Each slot and each column of a query has its place.
use Rattle.std.proofs.Common.{◌≡◌, ℕ, zero, suc, ◌+◌, ◌<◌, Bool, true, false, cond, List, [], ◌∷◌, ◌++◌, length, map, Option, Some, None, option_map, refl, sym, ap, subst, ◌∙◌, nat_eq, arith}
use Rattle.std.specs.List.{AllByRecursion, range_with_len}
use Rattle.std.specs.Cmp.Lexicographic.{pointwise}
use Rattle.std.proofs.lemmas.List.{append-nil}
use Rattle.bgp_model.specs.Solutions.{HasPlaces, IsPlaced}
use Rattle.bgp_model.specs.declared.query.Pattern.{Pattern}
use Rattle.query_text.specs.Grammar.{Node, Variable, Label, Constant, Triple, Columns, All, These, Written}
use Rattle.query_text.specs.Meaning.{selected, from_triples, variables_of_node, labels_of_node, names_of, labels_of, place_of, slot_of, pattern_of, columns_of, query_of}
use Rattle.query_text.specs.Building.{known_place, behind_known, with_name, with_names, of_triple}
use Rattle.query_text.proofs.Named.{Grown, known_place-last, place_of-known, known_below, with_names-grown}
use Rattle.query_text.proofs.Appearing.{query, first_appearance}

abbrev Known : List (List ℕ) → List ℕ → Type 0
Known names name = (place : ℕ) × (known_place names name ≡ Some place)

none_some : {n : ℕ} → None ≡ Some n → ⊥
none_some e = cc

known_longer : (names more : List (List ℕ)) (name : List ℕ) (place : ℕ) → known_place names name ≡ Some place → known_place (names ++ more) name ≡ Some place
known_longer [] more name place e = absurd (none_some e)
known_longer (other ∷ names) more name place e = by (pointwise nat_eq other name) (known_place names name) (λ p k. known_longer names more name p k) refl e
  where
    by : (b : Bool) (found : Option ℕ) → ((p : ℕ) → known_place names name ≡ Some p → known_place (names ++ more) name ≡ Some p) → known_place names name ≡ found
        → cond b (Some 0) (option_map suc found) ≡ Some place → cond b (Some 0) (option_map suc (known_place (names ++ more) name)) ≡ Some place
    by true found rest is e = e
    by false None rest is e = absurd (none_some e)
    by false (Some p) rest is e = ap (option_map suc) (rest p is) ∙ e

known_grown : (names longer : List (List ℕ)) (name : List ℕ) → Grown names longer → Known names name → Known longer name
known_grown names longer name g k = (k.0, ap (λ (ns : List (List ℕ)). known_place ns name) g.is ∙ known_longer names g.more name k.0 k.1)

known_now : (names : List (List ℕ)) (name : List ℕ) → Known (with_name names name) name
known_now names name = by (known_place names name) refl
  where
    by : (found : Option ℕ) → known_place names name ≡ found → Known (behind_known found names name) name
    by None e = (length names, known_place-last names name e)
    by (Some place) e = (place, e)

all_known : (names xs : List (List ℕ)) → AllByRecursion (Known (with_names names xs)) xs
all_known names [] = tt
all_known names (x ∷ xs) = (
  known_grown (with_name names x) (with_names (with_name names x) xs) x (with_names-grown (with_name names x) xs) (known_now names x),
  all_known (with_name names x) xs,
)

split_all : (P : List ℕ → Type 0) (xs ys : List (List ℕ)) → AllByRecursion P (xs ++ ys) → AllByRecursion P xs × AllByRecursion P ys
split_all P [] ys h = (tt, h)
split_all P (x ∷ xs) ys h = let rest = split_all P xs ys h.1 in ((h.0, rest.0), rest.1)

placed : (names : List (List ℕ)) (name : List ℕ) → Known names name → place_of names name < length names
placed names name (place, e) =
    let at : place_of names name ≡ place = ap (λ (ns : List (List ℕ)). place_of ns name) (sym (append-nil names)) ∙ place_of-known names [] name place e in
    let below : place < length names = known_below names name place e in
    omega (arith, at, below)

-- ---- columns

range_below : (a n m : ℕ) → a + n ≡ m → AllByRecursion (λ column. column < m) (range_with_len a n)
range_below a zero m e = tt
range_below a (suc n) m e = (omega (arith, e), range_below (a + 1) n m (omega (arith, e)))

selected_below : (names chosen : List (List ℕ)) → AllByRecursion (Known names) chosen → AllByRecursion (λ column. column < length names) (map (place_of names) chosen)
selected_below names [] h = tt
selected_below names (name ∷ chosen) h = (placed names name h.0, selected_below names chosen h.1)

columns_below : (names : List (List ℕ)) (columns : Columns) → AllByRecursion (Known names) (selected columns) → AllByRecursion (λ column. column < length names) (columns_of names columns)
columns_below names All h = range_below 0 (length names) (length names) (omega arith)
columns_below names (These chosen) h = selected_below names chosen h

-- ---- patterns

module _ (names labels : List (List ℕ)) (patterns : List Pattern) (columns : List ℕ) where
  node_placed : (node : Node) → AllByRecursion (Known names) (variables_of_node node) → AllByRecursion (Known labels) (labels_of_node node)
      → IsPlaced (query names (length labels) patterns columns) (slot_of names labels node)
  node_placed (Variable name) v l = placed names name v.0
  node_placed (Label label) v l = placed labels label l.0
  node_placed (Constant term) v l = tt

  triples_placed : (triples : List Triple) → AllByRecursion (Known names) (from_triples variables_of_node triples) → AllByRecursion (Known labels) (from_triples labels_of_node triples)
      → AllByRecursion (λ pattern.
      IsPlaced (query names (length labels) patterns columns) pattern.subject
      × IsPlaced (query names (length labels) patterns columns) pattern.predicate
      × IsPlaced (query names (length labels) patterns columns) pattern.object) (map (pattern_of names labels) triples)
  triples_placed [] v l = tt
  triples_placed (t ∷ ts) v l =
      let v1 = split_all (Known names) (of_triple variables_of_node t) (from_triples variables_of_node ts) v in
      let v2 = split_all (Known names) (variables_of_node t.subject) (variables_of_node t.predicate ++ variables_of_node t.object) v1.0 in
      let v3 = split_all (Known names) (variables_of_node t.predicate) (variables_of_node t.object) v2.1 in
      let l1 = split_all (Known labels) (of_triple labels_of_node t) (from_triples labels_of_node ts) l in
      let l2 = split_all (Known labels) (labels_of_node t.subject) (labels_of_node t.predicate ++ labels_of_node t.object) l1.0 in
      let l3 = split_all (Known labels) (labels_of_node t.predicate) (labels_of_node t.object) l2.1 in (
        (node_placed t.subject v2.0 l2.0, node_placed t.predicate v3.0 l3.0, node_placed t.object v3.1 l3.1),
        triples_placed ts v1.1 l1.1,
      )

-- a query as it is written has a place for each name
pub has_places : (written : Written) → HasPlaces (query_of written)
has_places written =
    let found = from_triples variables_of_node written.triples in
    let all : AllByRecursion (Known (names_of written)) (selected written.columns ++ found) =
    subst (λ (ns : List (List ℕ)). AllByRecursion (Known ns) (selected written.columns ++ found)) (first_appearance (selected written.columns ++ found))
    (all_known [] (selected written.columns ++ found)) in
    let labelled : AllByRecursion (Known (labels_of written)) (from_triples labels_of_node written.triples) =
    subst (λ (ns : List (List ℕ)). AllByRecursion (Known ns) (from_triples labels_of_node written.triples)) (first_appearance (from_triples labels_of_node written.triples))
    (all_known [] (from_triples labels_of_node written.triples)) in
    let parts = split_all (Known (names_of written)) (selected written.columns) found all in
    record {
      patterns = triples_placed (names_of written) (labels_of written) (query_of written).patterns (query_of written).columns written.triples parts.1 labelled;
      columns = columns_below (names_of written) written.columns parts.0;
    }
