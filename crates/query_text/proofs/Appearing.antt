-- Names that get their places as they come stand as they first appear, and the query so made is that of the written one.
use Rattle.std.proofs.Common.{◌≡◌, ℕ, Bool, true, false, cond, not, ◌&&◌, List, [], ◌∷◌, ◌++◌, length, map, Option, Some, None, is_some, refl, sym, ap, ◌∙◌, append_assoc, nat_eq}
use Rattle.std.specs.List.{filter}
use Rattle.std.specs.Cmp.Lexicographic.{pointwise, bytes_decides}
use Rattle.std.proofs.lemmas.List.{append-nil}
use Rattle.bgp_model.specs.declared.query.Pattern.{Pattern}
use Rattle.bgp_model.specs.declared.query.Query.{Query}
use Rattle.query_text.specs.Grammar.{Written}
use Rattle.query_text.specs.Meaning.{by_first_appearance, selected, from_triples, variables_of_node, labels_of_node, names_of, labels_of, pattern_of, columns_of, query_of}
use Rattle.query_text.specs.Building.{known_place, behind_known, with_name, with_names, ArePatterns, AreChosen, chosen_or_all}
use Rattle.query_text.proofs.Named.{known_place-append, or_place, at_end, with_names-grown, with_names-append}

-- ---- by first appearance

abbrev is_new : List (List ℕ) → List ℕ → Bool
is_new names name = not (is_some (known_place names name))

abbrev is_other : List ℕ → List ℕ → Bool
is_other name other = not (pointwise nat_eq other name)

same_flip : (one other : List ℕ) → pointwise nat_eq one other ≡ pointwise nat_eq other one
same_flip one other = by (pointwise nat_eq one other) (pointwise nat_eq other one) refl refl
  where
    flip : (a b : List ℕ) → pointwise nat_eq a b ≡ true → pointwise nat_eq b a ≡ true
    flip a b e = (bytes_decides b a).1 (sym ((bytes_decides a b).0 e))

    by : (x y : Bool) → pointwise nat_eq one other ≡ x → pointwise nat_eq other one ≡ y → x ≡ y
    by true true p q = refl
    by false false p q = refl
    by true false p q = sym (flip one other p) ∙ q
    by false true p q = sym p ∙ flip other one q

filter_twice : (p q : List ℕ → Bool) (xs : List (List ℕ)) → filter p (filter q xs) ≡ filter (λ x. q x && p x) xs
filter_twice p q [] = refl
filter_twice p q (x ∷ xs) = by (q x) (p x) refl (filter_twice p q xs)
  where
    by : (b d : Bool) → p x ≡ d → filter p (filter q xs) ≡ filter (λ y. q y && p y) xs
        → filter p (cond b (x ∷ filter q xs) (filter q xs)) ≡ cond (b && d) (x ∷ filter (λ y. q y && p y) xs) (filter (λ y. q y && p y) xs)
    by false d e rest = rest
    by true true e rest = ap (λ (z : Bool). cond z (x ∷ filter p (filter q xs)) (filter p (filter q xs))) e ∙ ap (λ (z : List (List ℕ)). x ∷ z) rest
    by true false e rest = ap (λ (z : Bool). cond z (x ∷ filter p (filter q xs)) (filter p (filter q xs))) e ∙ rest

filter_same : (p q : List ℕ → Bool) (xs : List (List ℕ)) → ((x : List ℕ) → p x ≡ q x) → filter p xs ≡ filter q xs
filter_same p q [] same = refl
filter_same p q (x ∷ xs) same =
    ap (λ (b : Bool). cond b (x ∷ filter p xs) (filter p xs)) (same x) ∙ ap (λ (z : List (List ℕ)). cond (q x) (x ∷ z) z) (filter_same p q xs same)

-- a name that is known already drops out twice
known_drops : (names : List (List ℕ)) (name other : List ℕ) (place : ℕ) → known_place names name ≡ Some place → (is_other name other && is_new names other) ≡ is_new names other
known_drops names name other place e = by (pointwise nat_eq other name) refl
  where
    by : (b : Bool) → pointwise nat_eq other name ≡ b → (not b && is_new names other) ≡ is_new names other
    by false p = refl
    by true p =
        let same : name ≡ other = sym ((bytes_decides other name).0 p) in
        sym (ap (λ (f : Option ℕ). not (is_some f)) (sym (ap (known_place names) same) ∙ e))

-- a new name is known from then on
new_drops : (names : List (List ℕ)) (name other : List ℕ) → (is_other name other && is_new names other) ≡ is_new (names ++ name ∷ []) other
new_drops names name other =
    ap (λ (b : Bool). not b && is_new names other) (same_flip other name)
    ∙ by (pointwise nat_eq name other) (known_place names other) ∙ ap (λ (f : Option ℕ). not (is_some f)) (sym (known_place-append names name other))
  where
    by : (b : Bool) (f : Option ℕ) → (not b && not (is_some f)) ≡ not (is_some (or_place f (at_end b (length names))))
    by true None = refl
    by true (Some p) = refl
    by false None = refl
    by false (Some p) = refl

appearing : (names xs : List (List ℕ)) → with_names names xs ≡ names ++ filter (is_new names) (by_first_appearance xs)
appearing names [] = sym (append-nil names)
appearing names (x ∷ xs) = by (known_place names x) refl (λ ns. appearing ns xs)
  where
    by : (found : Option ℕ) → known_place names x ≡ found → ((ns : List (List ℕ)) → with_names ns xs ≡ ns ++ filter (is_new ns) (by_first_appearance xs))
        → with_names (with_name names x) xs
        ≡ names ++ cond (is_new names x) (x ∷ filter (is_new names) (filter (is_other x) (by_first_appearance xs))) (filter (is_new names) (filter (is_other x) (by_first_appearance xs)))
    by (Some place) e rest =
        ap (λ (f : Option ℕ). with_names (behind_known f names x) xs) e ∙ rest names
        ∙ ap (λ (z : List (List ℕ)). names ++ z) (
        sym (filter_twice (is_new names) (is_other x) (by_first_appearance xs)
        ∙ filter_same (λ other. is_other x other && is_new names other) (is_new names) (by_first_appearance xs) (λ other. known_drops names x other place e)))
        ∙ ap (λ (f : Option ℕ). names ++ cond (not (is_some f)) (x ∷ filter (is_new names) (filter (is_other x) (by_first_appearance xs)))
        (filter (is_new names) (filter (is_other x) (by_first_appearance xs)))) (sym e)
    by None e rest =
        ap (λ (f : Option ℕ). with_names (behind_known f names x) xs) e ∙ rest (names ++ x ∷ [])
        ∙ append_assoc names (x ∷ []) (filter (is_new (names ++ x ∷ [])) (by_first_appearance xs))
        ∙ ap (λ (z : List (List ℕ)). names ++ x ∷ z) (
        sym (filter_twice (is_new names) (is_other x) (by_first_appearance xs)
        ∙ filter_same (λ other. is_other x other && is_new names other) (is_new (names ++ x ∷ [])) (by_first_appearance xs) (λ other. new_drops names x other)))
        ∙ ap (λ (f : Option ℕ). names ++ cond (not (is_some f)) (x ∷ filter (is_new names) (filter (is_other x) (by_first_appearance xs)))
        (filter (is_new names) (filter (is_other x) (by_first_appearance xs)))) (sym e)

filter_all : (xs : List (List ℕ)) → filter (is_new []) xs ≡ xs
filter_all [] = refl
filter_all (x ∷ xs) = ap (λ (z : List (List ℕ)). x ∷ z) (filter_all xs)

-- places that are given as names come are places by first appearance
pub first_appearance : (xs : List (List ℕ)) → with_names [] xs ≡ by_first_appearance xs
first_appearance xs = appearing [] xs ∙ filter_all (by_first_appearance xs)

-- ---- the query

abbrev pub query : List (List ℕ) → ℕ → List Pattern → List ℕ → Query
query names labels patterns columns = record { names = names; labels = labels; patterns = patterns; columns = columns }

pub query_made : (written : Written) (none start chosen_names names labels : List (List ℕ)) (chosen : Option (List ℕ)) (count number : ℕ) (columns : List ℕ) (patterns : List Pattern)
    → none ≡ [] → start ≡ [] → chosen_names ≡ with_names none (selected written.columns)
    → names ≡ with_names chosen_names (from_triples variables_of_node written.triples)
    → labels ≡ with_names start (from_triples labels_of_node written.triples)
    → AreChosen chosen_names written.columns chosen → columns ≡ chosen_or_all chosen count → count ≡ length names → number ≡ length labels
    → ArePatterns names labels written.triples patterns
    → query names number patterns columns ≡ query_of written
query_made written none start chosen_names names labels chosen count number columns patterns e s cn n l are c at labelled ps =
    ap (λ (z : ℕ). query names z patterns columns) labelled
    ∙ ap (λ (z : List Pattern). query names (length labels) z columns) made_patterns
    ∙ ap (λ (z : List ℕ). query names (length labels) (map (pattern_of names labels) written.triples) z) made_columns
    ∙ ap (λ (z : List (List ℕ)). query z (length labels) (map (pattern_of z labels) written.triples) (columns_of z written.columns)) all_names
    ∙ ap (λ (z : List (List ℕ)). query (names_of written) (length z) (map (pattern_of (names_of written) z) written.triples) (columns_of (names_of written) written.columns)) all_labels
  where
    found : List (List ℕ)
    found = from_triples variables_of_node written.triples

    all_names : names ≡ names_of written
    all_names =
        n ∙ ap (λ (z : List (List ℕ)). with_names z found) (cn ∙ ap (λ (z : List (List ℕ)). with_names z (selected written.columns)) e)
        ∙ sym (with_names-append [] (selected written.columns) found) ∙ first_appearance (selected written.columns ++ found)

    all_labels : labels ≡ labels_of written
    all_labels =
        l ∙ ap (λ (z : List (List ℕ)). with_names z (from_triples labels_of_node written.triples)) s ∙ first_appearance (from_triples labels_of_node written.triples)

    made_patterns : patterns ≡ map (pattern_of names labels) written.triples
    made_patterns =
        ps [] [] ∙ ap (λ (z : List (List ℕ)). map (pattern_of z (labels ++ [])) written.triples) (append-nil names)
        ∙ ap (λ (z : List (List ℕ)). map (pattern_of names z) written.triples) (append-nil labels)

    made_columns : columns ≡ columns_of names written.columns
    made_columns =
        let g = with_names-grown chosen_names found in
        let longer : chosen_names ++ g.more ≡ names = sym g.is ∙ sym n in
        c ∙ ap (chosen_or_all chosen) (at ∙ ap length (sym longer)) ∙ are g.more ∙ ap (λ (z : List (List ℕ)). columns_of z written.columns) longer
