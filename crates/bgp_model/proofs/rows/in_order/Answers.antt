use Rattle.std.proofs.Common.{◌≡◌, ◌+◌, ◌<◌, Bool, List, [], ◌∷◌, map, length, get_or, sym, ap, subst, ◌∙◌, rules, arith}
use Rattle.std.specs.Ordering.{nat_cmp, is_lt}
use Rattle.std.specs.Cmp.Lexicographic.{slice_cmp, nat_list_cmp_total}
use Rattle.std.specs.List.Sorted.{IsPermutation, IsSortedBy}
use Rattle.std.proofs.lemmas.List.{get_or-map, length-map}
use Rattle.std.proofs.lemmas.List.Sorted.{IsPermutation-map, ranks_by, answers_always}
use Rattle.bgp_model.specs.Row.{line_of}
use Rattle.bgp_model.proofs.rows.in_order.Goals as goal

-- what is moved is moved in the image too
moved : {P R : Type 0} (f : P → R) (ps qs : List P) (first last : List R) → map f ps ≡ first → last ≡ map f qs → IsPermutation ps qs → IsPermutation first last
moved f ps qs first last e g h = subst (λ rs. IsPermutation rs last) e (subst (IsPermutation (map f ps)) (sym g) (IsPermutation-map f ps qs h))

-- what is sorted by its images has sorted images
sorted_map : {P R : Type 0} (f : P → R) (lt : R → R → Bool) (ps : List P) → IsSortedBy (λ x y. lt (f x) (f y)) ps → IsSortedBy lt (map f ps)
sorted_map f lt [] up = λ k d low high. absurd (omega arith)
sorted_map f lt (p ∷ ps) up = λ k d low high.
    let long : k + 1 < length (p ∷ ps) = simp length-map at high in
    ap (λ r. lt r (get_or (map f (p ∷ ps)) k d)) (get_or-map f (p ∷ ps) (k + 1) p d long)
    ∙ ap (lt (f (get_or (p ∷ ps) (k + 1) p))) (get_or-map f (p ∷ ps) k p d (omega arith)) ∙ up k p low long

pub returns-clause-permuted : goal.returns-clause-permuted
returns-clause-permuted c =
    moved (λ p. p.row) _ _ _ _ c.in_ok-printed.ensures (c.of.ensures ∙ c.in_ok-rows.ensures) c.in_ok-sort_by.ensures.permutation

pub returns-clause-sorted : goal.returns-clause-sorted
returns-clause-sorted c =
    let up = c.in_ok-sort_by.ensures.sorted (λ x y. is_lt (slice_cmp nat_cmp (line_of x.row.cells) (line_of y.row.cells)))
    (ranks_by nat_list_cmp_total (λ p. line_of p.row.cells)) (answers_always _ _ _ (λ f a r g k. search rules)) in
    subst (IsSortedBy (λ x y. is_lt (slice_cmp nat_cmp (line_of x.cells) (line_of y.cells)))) (sym (c.of.ensures ∙ c.in_ok-rows.ensures))
    (sorted_map (λ p. p.row) (λ x y. is_lt (slice_cmp nat_cmp (line_of x.cells) (line_of y.cells))) _ up)
