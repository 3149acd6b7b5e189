-- What stands at a place of a list that was changed.
use Rattle.std.proofs.Common.{◌≡◌, ◌≢◌, ◌⊎◌, ℕ, zero, suc, ◌<◌, Some, List, [], ◌∷◌, ◌++◌, length, set, refl, sym, ap, ◌∙◌, inl, inr, ⊎_elim, arith}
use Rattle.std.specs.Prelude.{slice_get}

module _ {A : Type 0} where
  pub get_within : (xs : List A) (k : ℕ) (a : A) → slice_get xs k ≡ Some a → k < length xs
  get_within [] k a e = absurd (cc e)
  get_within (x ∷ xs) zero a e = omega arith
  get_within (x ∷ xs) (suc k) a e = let h : k < length xs = get_within xs k a e in omega arith

  pub get_set : (xs : List A) (n k : ℕ) (a b : A) → slice_get (set xs n a) k ≡ Some b → ((k ≡ n) × (a ≡ b)) ⊎ ((k ≢ n) × (slice_get xs k ≡ Some b))
  get_set [] n k a b e = absurd (cc e)
  get_set (x ∷ xs) zero zero a b e = inl (refl, cc e)
  get_set (x ∷ xs) zero (suc k) a b e = inr ((λ h. omega arith), e)
  get_set (x ∷ xs) (suc n) zero a b e = inr ((λ h. omega arith), e)
  get_set (x ∷ xs) (suc n) (suc k) a b e = ⊎_elim (λ t. inl (ap suc t.0, t.1)) (λ t. let f = t.0 in inr ((λ h. f (omega arith)), t.1)) (get_set xs n k a b e)

  pub get_set_here : (xs : List A) (n : ℕ) (a : A) → n < length xs → slice_get (set xs n a) n ≡ Some a
  get_set_here [] n a h = absurd (omega arith)
  get_set_here (x ∷ xs) zero a h = refl
  get_set_here (x ∷ xs) (suc n) a h = get_set_here xs n a (omega arith)

  pub get_set_else : (xs : List A) (n k : ℕ) (a : A) → k ≢ n → slice_get (set xs n a) k ≡ slice_get xs k
  get_set_else [] n k a h = refl
  get_set_else (x ∷ xs) zero zero a h = absurd (h refl)
  get_set_else (x ∷ xs) zero (suc k) a h = refl
  get_set_else (x ∷ xs) (suc n) zero a h = refl
  get_set_else (x ∷ xs) (suc n) (suc k) a h = get_set_else xs n k a (λ e. h (ap suc e))

  pub get_push : (xs : List A) (a b : A) (k : ℕ) → slice_get (xs ++ a ∷ []) k ≡ Some b → ((k ≡ length xs) × (a ≡ b)) ⊎ ((k < length xs) × (slice_get xs k ≡ Some b))
  get_push [] a b zero e = inl (refl, cc e)
  get_push [] a b (suc k) e = absurd (cc e)
  get_push (x ∷ xs) a b zero e = inr (omega arith, e)
  get_push (x ∷ xs) a b (suc k) e = ⊎_elim (λ t. let h : k ≡ length xs = t.0 in inl (omega arith, t.1)) (λ t. let h : k < length xs = t.0 in inr (omega arith, t.1)) (get_push xs a b k e)

  pub get_push_here : (xs : List A) (a : A) → slice_get (xs ++ a ∷ []) (length xs) ≡ Some a
  get_push_here [] a = refl
  get_push_here (x ∷ xs) a = get_push_here xs a

  pub get_longer : (xs ys : List A) (k : ℕ) (a : A) → slice_get xs k ≡ Some a → slice_get (xs ++ ys) k ≡ Some a
  get_longer [] ys k a e = absurd (cc e)
  get_longer (x ∷ xs) ys zero a e = e
  get_longer (x ∷ xs) ys (suc k) a e = get_longer xs ys k a e

  -- one place holds one value
  pub one_value : (xs : List A) (k : ℕ) (a b : A) → slice_get xs k ≡ Some a → slice_get xs k ≡ Some b → a ≡ b
  one_value xs k a b p q = let e : Some a ≡ Some b = sym p ∙ q in cc e
