-- What a list keeps whose elements are dropped by a test.
use Rattle.std.proofs.Common.{◌≡◌, Bool, true, false, List, [], ◌∷◌, length, refl, sym, subst, inl, inr, ⊎_elim, arith}
use Rattle.std.specs.List.{items_where_true}
use Rattle.std.specs.List.Retain.{IsFiltered, ReturnsInTurn}
use Rattle.base_core.specs.Lists.{Has}
use Rattle.place_core.specs.Places.{StandBy}

where_has : {X : Type 0} (bs : List Bool) (xs : List X) (y : X) → Has (items_where_true bs xs) y → Has xs y
where_has [] xs y h = absurd h
where_has (b ∷ bs) [] y h = absurd h
where_has (true ∷ bs) (x ∷ xs) y h = ⊎_elim (λ e. inl e) (λ t. inr (where_has bs xs y t)) h
where_has (false ∷ bs) (x ∷ xs) y h = inr (where_has bs xs y h)

module _ {X : Type 0} (Q : X → X → Type 0) where
  stand_where : (bs : List Bool) (xs : List X) → StandBy Q xs → StandBy Q (items_where_true bs xs)
  stand_where [] xs stand = tt
  stand_where (b ∷ bs) [] stand = tt
  stand_where (true ∷ bs) (x ∷ xs) stand = (λ y h. stand.0 y (where_has bs xs y h), stand_where bs xs stand.1)
  stand_where (false ∷ bs) (x ∷ xs) stand = stand_where bs xs stand.1

  pub stand_filtered : {P : Type 0} (R : P → X → Bool → P → Type 0) (p : P) (xs ys : List X) → IsFiltered R p xs ys → StandBy Q xs → StandBy Q ys
  stand_filtered R p xs ys filtered stand = subst (λ zs. StandBy Q zs) (sym filtered.4) (stand_where filtered.0 xs stand)

-- a test that stays as it is says true of what is kept, and false of what is not
module _ {X P : Type 0} (R : P → X → Bool → P → Type 0) (Kept Lost : X → Type 0) (not_both : (x : X) → Lost x → ¬ Kept x) (p : P)
    (says : (x : X) (b : Bool) (q : P) → R p x b q → (b ≡ true → Kept x) × (b ≡ false → Lost x) × (q ≡ p)) where
  abbrev IsKeptOf : List X → List X → X → Type 0
  IsKeptOf xs ys y = (Has ys y → Has xs y × Kept y) × (Has xs y × Kept y → Has ys y)

  kept_true : (x : X) (rest xs : List X) → Kept x → (y : X) → IsKeptOf xs rest y → IsKeptOf (x ∷ xs) (x ∷ rest) y
  kept_true x rest xs keeps y more = (
    λ h. ⊎_elim (λ e. (inl e, subst Kept e keeps)) (λ t. let m = more.0 t in (inr m.0, m.1)) h,
    λ h. ⊎_elim (λ e. inl e) (λ t. inr (more.1 (t, h.1))) h.0,
  )

  kept_false : (x : X) (rest xs : List X) → Lost x → (y : X) → IsKeptOf xs rest y → IsKeptOf (x ∷ xs) rest y
  kept_false x rest xs lost y more = (
    λ h. let m = more.0 h in (inr m.0, m.1),
    λ h. ⊎_elim (λ e. absurd (not_both x lost (subst Kept (sym e) h.1))) (λ t. more.1 (t, h.1)) h.0,
  )

  kept : (bs : List Bool) (xs : List X) (q : P) → length bs ≡ length xs → ReturnsInTurn R p bs xs q → (y : X) → IsKeptOf xs (items_where_true bs xs) y
  kept [] [] q long ran y = (λ h. absurd h, λ h. absurd h.0)
  kept [] (x ∷ xs) q long ran y = absurd (omega arith)
  kept (b ∷ bs) [] q long ran y = absurd ran
  kept (true ∷ bs) (x ∷ xs) q long ran y =
      let said = says x true ran.0 ran.1 in
      kept_true x (items_where_true bs xs) xs (said.0 refl) y (kept bs xs q (omega arith) (subst (λ s. ReturnsInTurn R s bs xs q) said.2 ran.2) y)
  kept (false ∷ bs) (x ∷ xs) q long ran y =
      let said = says x false ran.0 ran.1 in
      kept_false x (items_where_true bs xs) xs (said.1 refl) y (kept bs xs q (omega arith) (subst (λ s. ReturnsInTurn R s bs xs q) said.2 ran.2) y)

  pub has_filtered : (xs ys : List X) → IsFiltered R p xs ys → (y : X) → IsKeptOf xs ys y
  has_filtered xs ys filtered y = subst (λ zs. IsKeptOf xs zs y) (sym filtered.4) (kept filtered.0 xs filtered.1 filtered.2 filtered.3 y)
