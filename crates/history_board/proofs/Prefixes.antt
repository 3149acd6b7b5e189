-- Beginnings of one list.
use Rattle.std.proofs.Common.{◌<◌, Bool, true, false, if◌then◌else◌, nat_lt, ◌≡◌, ◌≤◌, List, [], ◌∷◌, ◌++◌, length, refl, ap, sym, ◌∙◌, arith, append_assoc}
use Rattle.std.proofs.lemmas.List.{append-nil}
use Rattle.std.proofs.lemmas.Bool.Decides.{nat_tests}
use mathlib.Core.List.{IsPrefix}
use Rattle.history_board.specs.Bearings.{longer}

module _ {A : Type 0} where
  -- each list begins with itself
  pub prefix_self : (xs : List A) → IsPrefix xs xs
  prefix_self xs = ([], append-nil xs)

  -- what begins a list begins each that goes on from it
  pub prefix_onward : (xs ys zs : List A) → IsPrefix xs ys → IsPrefix ys zs → IsPrefix xs zs
  prefix_onward xs ys zs p q = (p.0 ++ q.0, sym (append_assoc xs p.0 q.0) ∙ (ap (λ w. w ++ q.0) p.1 ∙ q.1))

  -- of two beginnings of one list the shorter begins the longer
  pub prefix_shorter : (xs ys zs : List A) → IsPrefix xs zs → IsPrefix ys zs → length xs ≤ length ys → IsPrefix xs ys
  prefix_shorter [] ys zs p q le = (ys, refl)
  prefix_shorter (x ∷ xs) [] zs p q le = absurd (omega arith)
  prefix_shorter (x ∷ xs) (y ∷ ys) [] p q le = absurd (cc (p.1))
  prefix_shorter (x ∷ xs) (y ∷ ys) (z ∷ zs) p q le =
      let heads : x ≡ y = cc (p.1, q.1) in
      let after = prefix_shorter xs ys zs (p.0, cc (p.1)) (q.0, cc (q.1)) (omega arith) in
      (after.0, cc (heads, after.1))

  -- the longer of two is as long as either
  longer_than : (xs ys : List A) (b : Bool) → nat_lt (length xs) (length ys) ≡ b → (length xs ≤ length (if b then ys else xs)) × (length ys ≤ length (if b then ys else xs))
  longer_than xs ys true is = let h : length xs < length ys = grind (arith, nat_tests) in (omega arith, omega arith)
  longer_than xs ys false is = let h : length ys ≤ length xs = grind (arith, nat_tests) in (omega arith, omega arith)

  pub longest : (xs ys : List A) → (length xs ≤ length (longer xs ys)) × (length ys ≤ length (longer xs ys))
  longest xs ys = longer_than xs ys (nat_lt (length xs) (length ys)) refl

  -- a beginning as long as the whole is the whole
  prefix_whole : (xs ys : List A) → IsPrefix xs ys → length ys ≤ length xs → xs ≡ ys
  prefix_whole [] [] p le = refl
  prefix_whole [] (y ∷ ys) p le = absurd (omega arith)
  prefix_whole (x ∷ xs) [] p le = absurd (cc (p.1))
  prefix_whole (x ∷ xs) (y ∷ ys) p le = let after = prefix_whole xs ys (p.0, cc (p.1)) (omega arith) in cc (p.1, after)

  whole_by : (xs ys : List A) → IsPrefix xs ys → (b : Bool) → nat_lt (length xs) (length ys) ≡ b → (if b then ys else xs) ≡ ys
  whole_by xs ys p true is = refl
  whole_by xs ys p false is = prefix_whole xs ys p (grind (arith, nat_tests))

  -- the longer of a beginning and the whole is the whole
  pub longer_whole : (xs ys : List A) → IsPrefix xs ys → longer xs ys ≡ ys
  longer_whole xs ys p = whole_by xs ys p (nat_lt (length xs) (length ys)) refl
