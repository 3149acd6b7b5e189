-- Lists without a number twice.
use Rattle.std.proofs.Common.{◌≡◌, ◌∙◌, ◌++◌, ◌∷◌, [], ◌⊎◌, ◌||◌, ℕ, List, Bool, true, false, nat_eq, refl, sym, inl, inr}
use Rattle.std.proofs.lemmas.Bool.{eq-eqb}
use Rattle.std.specs.List.{list_any}
use Rattle.base_core.specs.Lists.{Has, AreDistinct}

has_put : (xs : List ℕ) (x y : ℕ) → Has (xs ++ x ∷ []) y → Has xs y ⊎ (x ≡ y)
has_put [] x y (inl e) = inr e
has_put [] x y (inr h) = absurd h
has_put (z ∷ xs) x y (inl e) = inl (inl e)
has_put (z ∷ xs) x y (inr h) = either (has_put xs x y h)
  where
    either : Has xs y ⊎ (x ≡ y) → Has (z ∷ xs) y ⊎ (x ≡ y)
    either (inl k) = inl (inr k)
    either (inr e) = inr e

-- a number that isn't there may be put behind the others
pub distinct_put : (xs : List ℕ) (x : ℕ) → AreDistinct xs → ¬ Has xs x → AreDistinct (xs ++ x ∷ [])
distinct_put [] x d new = (λ h. h, tt)
distinct_put (z ∷ xs) x d new = (λ h. either (has_put xs x z h), distinct_put xs x d.1 (λ h. new (inr h)))
  where
    either : Has xs z ⊎ (x ≡ z) → ⊥
    either (inl h) = d.0 h
    either (inr e) = new (inl (sym e))

-- a test that fails on each of two
neither : (one other : Bool) → (one || other) ≡ false → (one ≡ false) × (other ≡ false)
neither true other e = absurd (no (sym e))
  where
    no : false ≡ true → ⊥
    no e = cc
neither false other e = (refl, e)

differ : (x y : ℕ) → nat_eq y x ≡ false → y ≡ x → ⊥
differ x y apart same = no (sym apart ∙ eq-eqb y x same)
  where
    no : false ≡ true → ⊥
    no e = cc

-- a number of which no equal one is found isn't there
pub not_among : (xs : List ℕ) (x : ℕ) → list_any (λ known. nat_eq known x) xs ≡ false → Has xs x → ⊥
not_among [] x none has = has
not_among (y ∷ xs) x none (inl same) = differ x y (neither (nat_eq y x) (list_any (λ known. nat_eq known x) xs) none).0 same
not_among (y ∷ xs) x none (inr has) = not_among xs x (neither (nat_eq y x) (list_any (λ known. nat_eq known x) xs) none).1 has
