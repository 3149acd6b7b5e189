-- A place has few lines: their numbers are distinct, and below 32,768.
use Rattle.std.proofs.Common.{◌≡◌, ◌⊎◌, ◌<◌, ◌≤◌, ℕ, suc, Bool, true, false, ◌||◌, List, [], ◌∷◌, length, map, refl, sym, ap, ◌∙◌, subst, inl, inr, arith, eqb}
use Rattle.std.specs.List.{list_any, IsDistinct, AllByRecursion}
use Rattle.std.proofs.lemmas.Bool.Decides.{nat_tests}
use Rattle.std.proofs.lemmas.Map.Steps.{length-le_from_distinct_below}
use Rattle.base_core.specs.Lists.{Has}
use Rattle.place_core.specs.declared.shards.Line.{Line}
use Rattle.place_core.specs.Places.{Placing, IsPlace, StandBy, LineComesBefore}
use Rattle.place_core.proofs.Orders.{not_before_line}
use Rattle.place_core.proofs.Listed.{from_map}
use Rattle.place_core.proofs.Keeping.{same_number}

abbrev numbers : List Line → List ℕ
numbers lines = map (λ (l : Line). l.number) lines

any_by : (t : Bool) (q x : ℕ) (xs : List ℕ) → eqb q x ≡ t → (list_any (eqb q) xs ≡ true → Has xs q) → (t || list_any (eqb q) xs) ≡ true → (x ≡ q) ⊎ Has xs q
any_by true q x xs is rest h = inl (grind (arith, nat_tests))
any_by false q x xs is rest h = inr (rest h)

any_has : (q : ℕ) (xs : List ℕ) → list_any (eqb q) xs ≡ true → Has xs q
any_has q [] h = cc
any_has q (x ∷ xs) h = any_by (eqb q x) q x xs refl (any_has q xs) h

all_of : (P : ℕ → Type 0) (xs : List ℕ) → ((x : ℕ) → Has xs x → P x) → AllByRecursion P xs
all_of P [] all = tt
all_of P (x ∷ xs) all = (all x (inl refl), all_of P xs (λ y h. all y (inr h)))

not_equal : (a b : ℕ) → ¬ (a ≡ b) → eqb a b ≡ false
not_equal a b other = grind (arith, nat_tests)

distinct_numbers : (lines : List Line) → StandBy LineComesBefore lines → ((line other : Line) → Has lines line → Has lines other → line.number ≡ other.number → line ≡ other)
    → IsDistinct eqb (numbers lines)
unfolding IsDistinct
distinct_numbers [] stand one = tt
distinct_numbers (line ∷ lines) stand one = (
  all_of (λ n. eqb line.number n ≡ false) (numbers lines) (λ n h.
      not_equal line.number n (λ e.
      let other = from_map (λ (l : Line). l.number) lines n h in
      let same = one line other.0 (inl refl) (inr other.1) (e ∙ sym other.2) in
      not_before_line line (stand.0 line (subst (λ l. Has lines l) (sym same) other.1)))),
  distinct_numbers lines stand.1 (λ a b ha hb e. one a b (inr ha) (inr hb) e),
)

length-numbers : (lines : List Line) → length (numbers lines) ≡ length lines
length-numbers [] = refl
length-numbers (line ∷ lines) = ap suc (length-numbers lines)

number_below : (p : Placing) → IsPlace p → (line : Line) → Has p.lines line → line.number < 32768
number_below p is line h = let of = is.sound.noted.of_service _ (is.shown line h) in omega (arith, of.0.1, of.1.0)

pub few_lines : (p : Placing) → IsPlace p → length p.lines ≤ 32768
few_lines p is =
    let all = distinct_numbers p.lines is.order (λ line other h ho e. same_number p is line other h ho e) in
    let below = length-le_from_distinct_below (numbers p.lines) 32768 all (λ q h.
    let line = from_map (λ (l : Line). l.number) p.lines q (any_has q (numbers p.lines) h) in
    subst (λ n. n < 32768) line.2 (number_below p is line.0 line.1)) in
    subst (λ n. n ≤ 32768) (length-numbers p.lines) below
