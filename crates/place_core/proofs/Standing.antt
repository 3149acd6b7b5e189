-- Lists whose elements stand in an order: their parts, and what a search among them says.
use Rattle.std.proofs.Common.{◌≡◌, ◌⊎◌, ◌+◌, ◌<◌, ◌≤◌, ℕ, zero, suc, Bool, true, List, [], ◌∷◌, ◌++◌, length, take, drop, get_or, refl, sym, ◌∙◌, subst, inl, inr, ⊎_elim, arith, length-drop}
use Rattle.std.specs.List.{AllWithin}
use Rattle.std.proofs.lemmas.List.{take-append-drop, get_or-take, get_or-drop}
use Rattle.base_core.specs.Lists.{Has}
use Rattle.place_board.proofs.Members.{has_left, has_right, has_cases}
use Rattle.place_core.specs.Places.{StandBy}

module _ {A : Type 0} where
  pub has_at : (xs : List A) (n : ℕ) (d : A) → n < length xs → Has xs (get_or xs n d)
  has_at [] n d below = absurd (omega arith)
  has_at (x ∷ xs) zero d below = inl refl
  has_at (x ∷ xs) (suc n) d below = inr (has_at xs n d (omega arith))

  pub has_at_front : (xs : List A) (n : ℕ) (d : A) → n < length xs → Has (take (suc n) xs) (get_or xs n d)
  has_at_front [] n d below = absurd (omega arith)
  has_at_front (x ∷ xs) zero d below = inl refl
  has_at_front (x ∷ xs) (suc n) d below = inr (has_at_front xs n d (omega arith))

  pub place_in : (xs : List A) (y : A) → Has xs y → (n : ℕ) × (n < length xs) × ((d : A) → get_or xs n d ≡ y)
  place_in [] y h = absurd h
  place_in (x ∷ xs) y (inl same) = (zero, omega arith, λ d. same)
  place_in (x ∷ xs) y (inr more) = let rest = place_in xs y more in (suc rest.0, omega (arith, rest.1), λ d. rest.2 d)

  pub has_front : (n : ℕ) (xs : List A) (y : A) → Has (take n xs) y → Has xs y
  has_front n xs y h = subst (λ zs. Has zs y) (take-append-drop n xs) (has_left (take n xs) (drop n xs) y h)

  pub has_back : (n : ℕ) (xs : List A) (y : A) → Has (drop n xs) y → Has xs y
  has_back n xs y h = subst (λ zs. Has zs y) (take-append-drop n xs) (has_right (take n xs) (drop n xs) y h)

  pub has_parts : (n : ℕ) (xs : List A) (y : A) → Has xs y → Has (take n xs) y ⊎ Has (drop n xs) y
  has_parts n xs y h = has_cases (take n xs) (drop n xs) y (subst (λ zs. Has zs y) (sym (take-append-drop n xs)) h)

  pub has_rest : (n : ℕ) (xs : List A) (y : A) → Has (take n xs ++ drop (suc n) xs) y → Has xs y
  has_rest n xs y h = ⊎_elim (λ f. has_front n xs y f) (λ b. has_back (suc n) xs y b) (has_cases (take n xs) (drop (suc n) xs) y h)

  pub has_some : (n : ℕ) (xs : List A) (y : A) → Has (take n xs) y → 0 < n
  has_some zero xs y h = absurd h
  has_some (suc n) xs y h = omega arith

  pub length_front : (n : ℕ) (xs : List A) → length (take n xs) ≤ n
  length_front zero xs = omega arith
  length_front (suc n) [] = omega arith
  length_front (suc n) (x ∷ xs) = omega (arith, length_front n xs)

  -- what holds of all places below one holds of the front, and of the others of the back
  pub front_all : (P : A → Type 0) (xs : List A) (n : ℕ) → AllWithin P xs 0 n → (y : A) → Has (take n xs) y → P y
  front_all P xs n all y h =
      let at = place_in (take n xs) y h in
      let below = length_front n xs in
      subst P (sym (get_or-take n xs at.0 y (omega (arith, at.1))) ∙ at.2 y) (all at.0 y (omega arith) (omega (arith, at.1)))

  pub back_all : (P : A → Type 0) (xs : List A) (n : ℕ) → AllWithin P xs n (length xs) → (y : A) → Has (drop n xs) y → P y
  back_all P xs n all y h =
      let at = place_in (drop n xs) y h in
      let long = length-drop n xs in
      subst P (sym (get_or-drop n xs at.0 y) ∙ at.2 y) (all (n + at.0) y (omega arith) (omega (arith, at.1)))

module _ {A : Type 0} (R : A → A → Type 0) where
  pub stand_split : (xs ys : List A) → StandBy R (xs ++ ys) → StandBy R xs × StandBy R ys × ((x y : A) → Has xs x → Has ys y → R x y)
  stand_split [] ys s = (tt, s, λ x y h. absurd h)
  stand_split (x ∷ xs) ys s =
      let rest = stand_split xs ys s.1 in
      ((λ y h. s.0 y (has_left xs ys y h), rest.0), rest.1, λ a b ha hb. ⊎_elim (λ e. subst (λ z. R z b) e (s.0 b (has_right xs ys b hb))) (λ t. rest.2 a b t hb) ha)

  pub stand_join : (xs ys : List A) → StandBy R xs → StandBy R ys → ((x y : A) → Has xs x → Has ys y → R x y) → StandBy R (xs ++ ys)
  stand_join [] ys a b c = b
  stand_join (x ∷ xs) ys a b c = (λ y h. ⊎_elim (λ l. a.0 y l) (λ r. c x y (inl refl) r) (has_cases xs ys y h), stand_join xs ys a.1 b (λ p q hp hq. c p q (inr hp) hq))

  pub stand_parts : (n : ℕ) (xs : List A) → StandBy R xs → StandBy R (take n xs) × StandBy R (drop n xs) × ((x y : A) → Has (take n xs) x → Has (drop n xs) y → R x y)
  stand_parts n xs s = stand_split (take n xs) (drop n xs) (subst (λ zs. StandBy R zs) (sym (take-append-drop n xs)) s)

  -- one more, between those that stand before it and those that stand behind it
  pub stand_put : (n : ℕ) (xs : List A) (new : A) → StandBy R xs → ((y : A) → Has (take n xs) y → R y new) → ((y : A) → Has (drop n xs) y → R new y) → StandBy R (take n xs ++ new ∷ drop n xs)
  stand_put n xs new s front back =
      let parts = stand_parts n xs s in
      stand_join (take n xs) (new ∷ drop n xs) parts.0 (back, parts.1)
      (λ x y hx hy. ⊎_elim (λ e. subst (λ z. R x z) e (front x hx)) (λ t. parts.2 x y hx t) hy)

  -- one less
  pub stand_without : (n : ℕ) (xs : List A) → StandBy R xs → StandBy R (take n xs ++ drop (suc n) xs)
  stand_without zero [] s = tt
  stand_without zero (x ∷ xs) s = s.1
  stand_without (suc n) [] s = tt
  stand_without (suc n) (x ∷ xs) s = (λ y h. s.0 y (has_rest n xs y h), stand_without n xs s.1)

  -- a test that passes before each that passes parts the list
  pub stand_parted : (p : A → Bool) → ((x y : A) → R x y → p y ≡ true → p x ≡ true) → (xs : List A) → StandBy R xs
      → (i j : ℕ) (d : A) → i ≤ j → j < length xs → p (get_or xs j d) ≡ true → p (get_or xs i d) ≡ true
  stand_parted p down [] s i j d le below h = absurd (omega arith)
  stand_parted p down (x ∷ xs) s zero zero d le below h = h
  stand_parted p down (x ∷ xs) s zero (suc j) d le below h = down x (get_or xs j d) (s.0 (get_or xs j d) (has_at xs j d (omega arith))) h
  stand_parted p down (x ∷ xs) s (suc i) zero d le below h = absurd (omega arith)
  stand_parted p down (x ∷ xs) s (suc i) (suc j) d le below h = stand_parted p down xs s.1 i j d (omega arith) (omega arith) h

  -- an element up to a place is the one there, or stands before it
  pub stand_last : (xs : List A) → StandBy R xs → (n : ℕ) (d : A) → n < length xs → (y : A) → Has (take (suc n) xs) y → (y ≡ get_or xs n d) ⊎ R y (get_or xs n d)
  stand_last [] s n d below y h = absurd (omega arith)
  stand_last (x ∷ xs) s zero d below y (inl same) = inl (sym same)
  stand_last (x ∷ xs) s zero d below y (inr none) = absurd none
  stand_last (x ∷ xs) s (suc n) d below y (inl same) = inr (subst (λ z. R z (get_or xs n d)) same (s.0 (get_or xs n d) (has_at xs n d (omega arith))))
  stand_last (x ∷ xs) s (suc n) d below y (inr more) = stand_last xs s.1 n d (omega arith) y more

  -- where none stands so to itself, what stands beside a place isn't what stands there
  pub stand_other : ((x : A) → ¬ R x x) → (xs : List A) → StandBy R xs → (n : ℕ) (d : A) → n < length xs → (y : A) → Has (take n xs ++ drop (suc n) xs) y → ¬ (y ≡ get_or xs n d)
  stand_other not [] s n d below y h same = absurd (omega arith)
  stand_other not (x ∷ xs) s zero d below y h same = not x (s.0 x (subst (λ z. Has xs z) same h))
  stand_other not (x ∷ xs) s (suc n) d below y (inl is) same = not x (subst (λ z. R x z) (sym (is ∙ same)) (s.0 (get_or xs n d) (has_at xs n d (omega arith))))
  stand_other not (x ∷ xs) s (suc n) d below y (inr more) same = stand_other not xs s.1 n d (omega arith) y more same

module _ {A : Type 0} where
  pub has_put : (n : ℕ) (xs : List A) (new y : A) → (Has (take n xs ++ new ∷ drop n xs) y → Has xs y ⊎ (new ≡ y)) × (Has xs y ⊎ (new ≡ y) → Has (take n xs ++ new ∷ drop n xs) y)
  has_put n xs new y = (
    λ h. ⊎_elim (λ f. inl (has_front n xs y f)) (λ b. ⊎_elim (λ e. inr e) (λ t. inl (has_back n xs y t)) b) (has_cases (take n xs) (new ∷ drop n xs) y h),
    λ h. ⊎_elim (λ old. ⊎_elim (λ f. has_left (take n xs) (new ∷ drop n xs) y f) (λ b. has_right (take n xs) (new ∷ drop n xs) y (inr b)) (has_parts n xs y old))
        (λ e. has_right (take n xs) (new ∷ drop n xs) y (inl e)) h,
  )

  -- all but the element at a place
  pub has_kept : (xs : List A) (n : ℕ) (d : A) → n < length xs → (y : A) → Has xs y → Has (take n xs ++ drop (suc n) xs) y ⊎ (y ≡ get_or xs n d)
  has_kept [] n d below y h = absurd h
  has_kept (x ∷ xs) zero d below y (inl same) = inr (sym same)
  has_kept (x ∷ xs) zero d below y (inr more) = inl more
  has_kept (x ∷ xs) (suc n) d below y (inl same) = inl (inl same)
  has_kept (x ∷ xs) (suc n) d below y (inr more) = ⊎_elim (λ l. inl (inr l)) (λ r. inr r) (has_kept xs n d (omega arith) y more)
