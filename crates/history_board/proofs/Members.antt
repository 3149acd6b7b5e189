-- What a list has as an element.
use Rattle.std.proofs.Common.{◌≡◌, ◌≢◌, ◌⊎◌, ℕ, zero, suc, ◌<◌, ◌≤◌, ◌==◌, Bool, true, false, true≢false, if◌then◌else◌, List, [], ◌∷◌, length, map, filter, refl, sym, ap, ◌∙◌, subst, inl, inr, ⊎_elim, arith}
use Rattle.std.specs.Prelude.{Contains}
use Rattle.std.proofs.lemmas.Bool.Decides.{nat_tests}

-- by cases on a test
pub by_cases : {R : Type 0} (b : Bool) → (b ≡ true → R) → (b ≡ false → R) → R
by_cases true p q = p refl
by_cases false p q = q refl

pub same_number : (a b : ℕ) → (a == b) ≡ true → a ≡ b
same_number a b e = grind (arith, nat_tests)

pub other_number : (a b : ℕ) → (a == b) ≡ false → a ≢ b
other_number a b e same = grind (arith, nat_tests)

pub is_same : (a b : ℕ) → a ≡ b → (a == b) ≡ true
is_same a b e = grind (arith, nat_tests)

module _ {A : Type 0} where
  pub none_in : (R : Type 0) (x : A) → Contains [] x → R
  none_in R x has = let l = has.1 in absurd (omega arith)

  pub has_first : (x : A) (xs : List A) → Contains (x ∷ xs) x
  has_first x xs = (0, omega arith, refl)

  pub has_later : (x y : A) (xs : List A) → Contains xs y → Contains (x ∷ xs) y
  has_later x y xs has = (suc has.0, (let l = has.1 in omega arith), has.2)

  pub has_cases : (x y : A) (xs : List A) → Contains (x ∷ xs) y → (x ≡ y) ⊎ Contains xs y
  has_cases x y xs (zero, l, is) = inl is
  has_cases x y xs (suc k, l, is) = inr (k, omega arith, is)

  pub one_of_one : (x y : A) → Contains (x ∷ []) y → x ≡ y
  one_of_one x y has = ⊎_elim (λ e. e) (λ later. none_in (x ≡ y) y later) (has_cases x y [] has)

  -- what passes the test, of a list
  kept_by : (test : A → Bool) (x y : A) (xs : List A) (b : Bool) → test x ≡ b → (Contains (filter test xs) y → Contains xs y × (test y ≡ true)) → Contains (if b then x ∷ filter test xs else filter test xs) y → Contains (x ∷ xs) y × (test y ≡ true)
  kept_by test x y xs true is rest has = ⊎_elim
      (λ e. (subst (λ z. Contains (x ∷ xs) z) e (has_first x xs), ap test (sym e) ∙ is))
      (λ later. let r = rest later in (has_later x y xs r.0, r.1))
      (has_cases x y (filter test xs) has)
  kept_by test x y xs false is rest has = let r = rest has in (has_later x y xs r.0, r.1)

  pub kept : (test : A → Bool) (xs : List A) (y : A) → Contains (filter test xs) y → Contains xs y × (test y ≡ true)
  kept test [] y has = none_in _ y has
  kept test (x ∷ xs) y has = kept_by test x y xs (test x) refl (kept test xs y) has

  keeps_by : (test : A → Bool) (x y : A) (xs : List A) (b : Bool) → test x ≡ b → test y ≡ true → (Contains xs y → Contains (filter test xs) y) → Contains (x ∷ xs) y → Contains (if b then x ∷ filter test xs else filter test xs) y
  keeps_by test x y xs true is passes rest has = ⊎_elim
      (λ e. subst (λ z. Contains (x ∷ filter test xs) z) e (has_first x (filter test xs)))
      (λ later. has_later x y (filter test xs) (rest later))
      (has_cases x y xs has)
  keeps_by test x y xs false is passes rest has = ⊎_elim
      (λ e. absurd (true≢false (sym passes ∙ (ap test (sym e) ∙ is))))
      (λ later. rest later)
      (has_cases x y xs has)

  pub keeps_one : (test : A → Bool) (xs : List A) (y : A) → test y ≡ true → Contains xs y → Contains (filter test xs) y
  keeps_one test [] y passes has = none_in _ y has
  keeps_one test (x ∷ xs) y passes has = keeps_by test x y xs (test x) refl passes (keeps_one test xs y passes) has

  pub length-filter_le : (test : A → Bool) (xs : List A) → length (filter test xs) ≤ length xs
  length-filter_le test [] = omega arith
  length-filter_le test (x ∷ xs) = by test x xs (test x) (length-filter_le test xs)
    where
      by : (test : A → Bool) (x : A) (xs : List A) (b : Bool) → length (filter test xs) ≤ length xs → length (if b then x ∷ filter test xs else filter test xs) ≤ length (x ∷ xs)
      by test x xs true h = omega arith
      by test x xs false h = omega arith

  -- a list that is not empty has an element
  pub some_in : (xs : List A) → 0 < length xs → (x : A) × Contains xs x
  some_in [] h = absurd (omega arith)
  some_in (x ∷ xs) h = (x, has_first x xs)

  -- one that is has none
  pub some_out : (xs : List A) (x : A) → Contains xs x → 0 < length xs
  some_out xs x has = let l = has.1 in omega arith

module _ {A B : Type 0} (f : A → B) where
  pub mapped : (xs : List A) (x : A) → Contains xs x → Contains (map f xs) (f x)
  mapped [] x has = none_in _ x has
  mapped (y ∷ ys) x has = ⊎_elim (λ e. subst (λ (z : A). Contains (map f (y ∷ ys)) (f z)) e (has_first (f y) (map f ys))) (λ later. has_later (f y) (f x) (map f ys) (mapped ys x later)) (has_cases y x ys has)

  pub mapped_from : (xs : List A) (z : B) → Contains (map f xs) z → (x : A) × Contains xs x × (z ≡ f x)
  mapped_from [] z has = none_in _ z has
  mapped_from (x ∷ xs) z has = ⊎_elim
      (λ e. (x, has_first x xs, sym e))
      (λ later. let r = mapped_from xs z later in (r.0, has_later x r.0 xs r.1, r.2))
      (has_cases (f x) z (map f xs) has)
