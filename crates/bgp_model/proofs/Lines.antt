-- Lists of ranks compare as lines do.
use Rattle.std.proofs.Common.{◌≡◌, ℕ, suc, zero, ◌<◌, ◌≤◌, ◌+◌, Bool, true, false, List, [], ◌∷◌, ◌++◌, length, map, take, drop, get_or, Option, Some, None, ◌⊎◌, inl, inr, refl, sym, ap, subst, ◌∙◌, arith}
use Rattle.std.specs.declared.cmp.Ordering.{Ordering}
use Rattle.std.specs.declared.cmp.Ordering.TheVariants.{Less, Equal, Greater}
use Rattle.std.specs.Ordering.{nat_cmp, is_lt, ordering_then, ordering_reverse, MatchOrdering}
use Rattle.std.specs.Cmp.Lexicographic.{slice_cmp}
use Rattle.std.specs.List.{flat_map, All, AllByRecursion}
use Rattle.std.specs.List.Sorted.{IsPermutation, IsSortedBy}
use Rattle.std.proofs.lemmas.Bool.{lt-ltb, cond-true}
use Rattle.std.proofs.lemmas.Cmp.{ranked, tied_itself, nat_cmp_total, nat_list_cmp_total}
use Rattle.std.proofs.lemmas.List.{get_or-map, length-map, take-map, drop-map}
use Rattle.std.proofs.lemmas.List.Sorted.{All-permutation}
use Rattle.term_core.specs.declared.term.Term.{Term}
use Rattle.nt_text.specs.Cell.{cell, cell_of, IsCell}
use Rattle.nt_text.proofs.Cells.{Follows, cell_of-follow}
use Rattle.bgp_model.specs.declared.solution.Solution.{Solution}
use Rattle.bgp_model.specs.Row.{line_of}
use Rattle.bgp_model.specs.Table.{cell_at, row_with, row_at, numbered_rows, HasTerms, text_at, rank_at, AreRanks, placed_line}
use Rattle.bgp_model.proofs.Placed.{text_at-cell, placed_line-is}

-- ---- orderings

pub less_number : (a b : ℕ) → a < b → nat_cmp a b ≡ Less
less_number a b h = cond-true _ Less _ (lt-ltb a b h)

equal_ranked : (a b : ℕ) (o : Ordering) → MatchOrdering o (a < b) (a ≡ b) (b < a) → o ≡ Equal → a ≡ b
equal_ranked a b Less is e = absurd cc
equal_ranked a b Equal is e = is
equal_ranked a b Greater is e = absurd cc

pub equal_number : (a b : ℕ) → nat_cmp a b ≡ Equal → a ≡ b
equal_number a b e = equal_ranked a b (nat_cmp a b) (ranked a b (nat_cmp a b) refl) e

then_equal : (o rest : Ordering) → ordering_then o rest ≡ Equal → (o ≡ Equal) × (rest ≡ Equal)
then_equal Less rest e = absurd cc
then_equal Equal rest e = (refl, e)
then_equal Greater rest e = absurd cc

then_less : (o rest more : Ordering) → ordering_then o rest ≡ Less → (o ≡ Equal → rest ≡ Less → more ≡ Less) → ordering_then o more ≡ Less
then_less Less rest more e goes_on = refl
then_less Equal rest more e goes_on = goes_on refl e
then_less Greater rest more e goes_on = absurd cc

not_then_less : (o rest : Ordering) (G : Type 0) → is_lt (ordering_then o rest) ≡ false → (o ≡ Equal → is_lt rest ≡ false → G) → (o ≡ Greater → G) → G
not_then_less Less rest G e equal greater = absurd cc
not_then_less Equal rest G e equal greater = equal refl e
not_then_less Greater rest G e equal greater = greater refl

from_greater : (o : Ordering) → Greater ≡ ordering_reverse o → o ≡ Less
from_greater Less e = refl
from_greater Equal e = absurd cc
from_greater Greater e = absurd cc

pub equal_lists : (xs ys : List ℕ) → slice_cmp nat_cmp xs ys ≡ Equal → xs ≡ ys
equal_lists [] [] e = refl
equal_lists [] (y ∷ ys) e = absurd cc
equal_lists (x ∷ xs) [] e = absurd cc
equal_lists (x ∷ xs) (y ∷ ys) e =
    let parts = then_equal (nat_cmp x y) (slice_cmp nat_cmp xs ys) e in
    ap (λ (a : ℕ). a ∷ xs) (equal_number x y parts.0) ∙ ap (λ (zs : List ℕ). y ∷ zs) (equal_lists xs ys parts.1)

same_front : (front xs ys : List ℕ) → slice_cmp nat_cmp (front ++ xs) (front ++ ys) ≡ slice_cmp nat_cmp xs ys
same_front [] xs ys = refl
same_front (a ∷ front) xs ys =
    ap (λ (o : Ordering). ordering_then o (slice_cmp nat_cmp (front ++ xs) (front ++ ys))) (tied_itself nat_cmp_total a) ∙ same_front front xs ys

-- ---- cells with tabs between them

-- nothing, or a tab and more
abbrev IsTail : List ℕ → Type 0
IsTail tail = (tail ≡ []) ⊎ ((rest : List ℕ) × (tail ≡ 9 ∷ rest))

tail_below : (tail : List ℕ) (b : ℕ) (bytes : List ℕ) → IsTail tail → 9 < b → slice_cmp nat_cmp tail (b ∷ bytes) ≡ Less
tail_below tail b bytes (inl none) above = ap (λ (t : List ℕ). slice_cmp nat_cmp t (b ∷ bytes)) none
tail_below tail b bytes (inr (rest, is)) above =
    ap (λ (t : List ℕ). slice_cmp nat_cmp t (b ∷ bytes)) is
    ∙ ap (λ (o : Ordering). ordering_then o (slice_cmp nat_cmp rest bytes)) (less_number 9 b above)

-- a lesser text stays the lesser with a tail behind it
less_apart : (one other tail rest : List ℕ) → Follows one other → IsTail tail → slice_cmp nat_cmp one other ≡ Less
    → slice_cmp nat_cmp (one ++ tail) (other ++ rest) ≡ Less
less_apart [] [] tail rest follows is less = absurd cc
less_apart [] (b ∷ other) tail rest follows is less = tail_below tail b (other ++ rest) is (follows b other refl)
less_apart (a ∷ one) [] tail rest follows is less = absurd cc
less_apart (a ∷ one) (b ∷ other) tail rest follows is less =
    then_less (nat_cmp a b) (slice_cmp nat_cmp one other) (slice_cmp nat_cmp (one ++ tail) (other ++ rest)) less
    (λ same behind. less_apart one other tail rest
    (λ c more e. follows c more (ap (λ (x : ℕ). x ∷ other) (sym (equal_number a b same)) ∙ ap (λ (xs : List ℕ). a ∷ xs) e)) is behind)

-- no text that goes on behind this one goes on with a byte up to the tab
abbrev IsClear : List (List ℕ) → Option ℕ → Type 0
IsClear texts place = (other : Option ℕ) → Follows (text_at texts other) (text_at texts place)

abbrev later : List (List ℕ) → List (Option ℕ) → List ℕ
later texts places = flat_map (λ place. 9 ∷ text_at texts place) places

later_is : (texts : List (List ℕ)) (places : List (Option ℕ)) → IsTail (later texts places)
later_is texts [] = inl refl
later_is texts (place ∷ places) = inr (text_at texts place ++ later texts places, refl)

abbrev NotBelow : List ℕ → List ℕ → Type 0
NotBelow xs ys = is_lt (slice_cmp nat_cmp xs ys) ≡ false

none_below_nil : (xs : List ℕ) → NotBelow xs []
none_below_nil [] = refl
none_below_nil (x ∷ xs) = refl

later_cells : (texts : List (List ℕ)) (ranks : List ℕ) (xs ys : List (Option ℕ))
    → (NotBelow (map (rank_at ranks) xs) (map (rank_at ranks) ys) → NotBelow (placed_line texts xs) (placed_line texts ys))
    → NotBelow (map (rank_at ranks) xs) (map (rank_at ranks) ys) → NotBelow (later texts xs) (later texts ys)
later_cells texts ranks [] [] lines up = refl
later_cells texts ranks [] (y ∷ ys) lines up = absurd cc
later_cells texts ranks (x ∷ xs) [] lines up = refl
later_cells texts ranks (x ∷ xs) (y ∷ ys) lines up = lines up

greater_front : (one other tail rest : List ℕ) → Follows other one → IsTail rest → slice_cmp nat_cmp one other ≡ Greater → NotBelow (one ++ tail) (other ++ rest)
greater_front one other tail rest follows is greater =
    let less : slice_cmp nat_cmp other one ≡ Less = from_greater (slice_cmp nat_cmp other one) (sym greater ∙ nat_list_cmp_total.antisymm one other) in
    ap is_lt (nat_list_cmp_total.antisymm (one ++ tail) (other ++ rest) ∙ ap ordering_reverse (less_apart other one rest tail follows is less))

equal_front : (one other tail rest : List ℕ) → slice_cmp nat_cmp one other ≡ Equal → NotBelow tail rest → NotBelow (one ++ tail) (other ++ rest)
equal_front one other tail rest equal up =
    ap (λ (front : List ℕ). is_lt (slice_cmp nat_cmp (front ++ tail) (other ++ rest))) (equal_lists one other equal)
    ∙ ap is_lt (same_front other tail rest) ∙ up

-- Where a list of ranks isn't below another, nor is its line.
pub ranked_lines : (texts : List (List ℕ)) (ranks : List ℕ) → AreRanks texts ranks → (xs ys : List (Option ℕ)) → AllByRecursion (IsClear texts) xs
    → NotBelow (map (rank_at ranks) xs) (map (rank_at ranks) ys) → NotBelow (placed_line texts xs) (placed_line texts ys)
ranked_lines texts ranks are [] [] clear up = refl
ranked_lines texts ranks are [] (y ∷ ys) clear up = absurd cc
ranked_lines texts ranks are (x ∷ xs) [] clear up = none_below_nil (placed_line texts (x ∷ xs))
ranked_lines texts ranks are (x ∷ xs) (y ∷ ys) clear up =
    not_then_less (nat_cmp (rank_at ranks x) (rank_at ranks y)) (slice_cmp nat_cmp (map (rank_at ranks) xs) (map (rank_at ranks) ys)) _ up
    (λ equal behind. equal_front (text_at texts x) (text_at texts y) (later texts xs) (later texts ys) (sym (are x y) ∙ equal)
    (later_cells texts ranks xs ys (ranked_lines texts ranks are xs ys clear.1) behind))
    (λ greater. greater_front (text_at texts x) (text_at texts y) (later texts xs) (later texts ys) (clear.0 y) (later_is texts ys) (sym (are x y) ∙ greater))

-- ---- rows of terms

clear_place : (terms : List Term) (place : Option ℕ) → IsCell (cell_at terms place) → IsClear (map cell terms) place
clear_place terms place is other b more e =
    cell_of-follow (cell_at terms other) (cell_at terms place) is b more
    (sym (text_at-cell terms place) ∙ e ∙ ap (λ (text : List ℕ). text ++ b ∷ more) (text_at-cell terms other))

clear_places : (terms : List Term) (places : List (Option ℕ)) → AllByRecursion IsCell (map (cell_at terms) places) → AllByRecursion (IsClear (map cell terms)) places
clear_places terms [] are = tt
clear_places terms (place ∷ places) are = (clear_place terms place are.0, clear_places terms places are.1)

all_mapped : {A B : Type 0} → (f : A → B) → (P : B → Type 0) → (xs : List A) → AllByRecursion P (map f xs) → All (λ x. P (f x)) xs
all_mapped f P [] are k d low = absurd (omega arith)
all_mapped f P (x ∷ xs) are zero d low = are.0
all_mapped f P (x ∷ xs) are (suc k) d low = all_mapped f P xs are.1 k d (omega arith)

-- what is sorted has sorted images, where what isn't below has images that aren't
sorted_images : {A B : Type 0} → (f : A → B) → (lt : A → A → Bool) → (less : B → B → Bool) → (P : A → Type 0) → (xs : List A) → All P xs
    → ((x y : A) → P x → lt x y ≡ false → less (f x) (f y) ≡ false) → IsSortedBy lt xs → IsSortedBy less (map f xs)
sorted_images f lt less P [] each keeps up = λ k d low high. absurd (omega arith)
sorted_images f lt less P (x ∷ xs) each keeps up = λ k d low high.
    let long : k + 1 < length (x ∷ xs) = simp length-map at high in
    ap (λ r. less r (get_or (map f (x ∷ xs)) k d)) (get_or-map f (x ∷ xs) (k + 1) x d long)
    ∙ ap (less (f (get_or (x ∷ xs) (k + 1) x))) (get_or-map f (x ∷ xs) k x d (omega arith))
    ∙ keeps (get_or (x ∷ xs) (k + 1) x) (get_or (x ∷ xs) k x) (each (k + 1) x long) (up k x low long)

row_ranks : (ranks : List ℕ) (columns number : ℕ) (places : List (Option ℕ)) → row_at columns number (map (rank_at ranks) places) ≡ map (rank_at ranks) (row_at columns number places)
row_ranks ranks columns number places =
    ap (take columns) (drop-map (rank_at ranks) _ places) ∙ take-map (rank_at ranks) columns _

-- rows that are sorted by the ranks of their cells are sorted by their lines
pub sorted_rows : (terms : List Term) (ranks : List ℕ) (columns : ℕ) (places : List (Option ℕ)) (numbers sorted : List ℕ)
    → AreRanks (map cell terms) ranks → HasTerms (numbered_rows terms columns places numbers) → IsPermutation numbers sorted
    → IsSortedBy (λ one other. is_lt (slice_cmp nat_cmp (row_at columns one (map (rank_at ranks) places)) (row_at columns other (map (rank_at ranks) places)))) sorted
    → IsSortedBy (λ (one other : Solution). is_lt (slice_cmp nat_cmp (line_of one.cells) (line_of other.cells))) (numbered_rows terms columns places sorted)
sorted_rows terms ranks columns places numbers sorted are has moved up =
    let row : ℕ → List (Option ℕ) = λ number. row_at columns number places in
    let HasCells : ℕ → Type 0 = λ number. AllByRecursion IsCell (map (cell_at terms) (row number)) in
    sorted_images (λ number. row_with terms (row_at columns number places))
    (λ one other. is_lt (slice_cmp nat_cmp (row_at columns one (map (rank_at ranks) places)) (row_at columns other (map (rank_at ranks) places))))
    (λ one other. is_lt (slice_cmp nat_cmp (line_of one.cells) (line_of other.cells))) HasCells sorted
    (All-permutation HasCells numbers sorted moved (all_mapped (λ number. row_with terms (row_at columns number places)) (λ r. AllByRecursion IsCell r.cells) numbers has))
    (λ one other cells above.
    let ranks_up : NotBelow (map (rank_at ranks) (row one)) (map (rank_at ranks) (row other)) =
    ap (λ (xs : List ℕ). is_lt (slice_cmp nat_cmp xs (map (rank_at ranks) (row other)))) (sym (row_ranks ranks columns one places))
    ∙ ap (λ (ys : List ℕ). is_lt (slice_cmp nat_cmp (row_at columns one (map (rank_at ranks) places)) ys)) (sym (row_ranks ranks columns other places)) ∙ above in
    ap (λ (xs : List ℕ). is_lt (slice_cmp nat_cmp xs (line_of (map (cell_at terms) (row other))))) (sym (placed_line-is terms (row one)))
    ∙ ap (λ (ys : List ℕ). is_lt (slice_cmp nat_cmp (placed_line (map cell terms) (row one)) ys)) (sym (placed_line-is terms (row other)))
    ∙ ranked_lines (map cell terms) ranks are (row one) (row other) (clear_places terms (row one) cells) ranks_up)
    up
