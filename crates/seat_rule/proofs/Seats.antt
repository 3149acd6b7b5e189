-- How the live views change in a step.
use Rattle.std.proofs.Common.{◌≡◌, ◌≢◌, ◌⊎◌, ℕ, Bool, zero, suc, ◌<◌, true, false, true≢false, List, [], ◌∷◌, ◌++◌, length, set, refl, sym, ap, ◌∙◌, inl, inr, ⊎_elim, arith}
use mathlib.Core.Option.{some, some-ne-none, some-injective}
use lib.ListN.{get_elem?}
use Rattle.atomic_table.proofs.Lists.{at_set, at_last, at_longer, set_here, set_else}
use Rattle.seat_rule.specs.Pairs.{IsLive}

module _ {A : Type 0} where
  pub inside : (l : List A) (i : ℕ) (a : A) → get_elem? l i ≡ some a → i < length l
  inside [] i a e = absurd (some-ne-none a (sym e))
  inside (x ∷ xs) zero a e = omega arith
  inside (x ∷ xs) (suc i) a e = let h : i < length xs = inside xs i a e in omega arith

  at_end : (l : List A) (a b : A) (j : ℕ) → get_elem? (l ++ a ∷ []) j ≡ some b → (get_elem? l j ≡ some b) ⊎ ((j ≡ length l) × (a ≡ b))
  at_end [] a b zero e = inr (refl, some-injective a b e)
  at_end [] a b (suc j) e = absurd (some-ne-none b (sym e))
  at_end (x ∷ xs) a b zero e = inl e
  at_end (x ∷ xs) a b (suc j) e = ⊎_elim (λ t. inl t) (λ t. let h : j ≡ length xs = t.0 in inr (omega arith, t.1)) (at_end xs a b j e)

module _ {V : Type 0} where
  -- the seat has a new view, and no other has
  pub record Turned (At After : ℕ → V → Type 0) (id : ℕ) (w : V) : Type 0 where
    pub cases : (by : ℕ) (u : V) → After by u → ((by ≡ id) × (w ≡ u)) ⊎ ((by ≢ id) × At by u)
    pub here : After id w
    pub stay : (by : ℕ) (u : V) → At by u → by ≢ id → After by u

  -- a new seat has come
  pub record Added (At After : ℕ → V → Type 0) (new : ℕ) (r : V) : Type 0 where
    pub cases : (by : ℕ) (u : V) → After by u → ((by ≡ new) × (r ≡ u)) ⊎ ((by ≢ new) × At by u)
    pub here : After new r
    pub stay : (by : ℕ) (u : V) → At by u → After by u

  -- a seat was spent
  pub record Dropped (At After : ℕ → V → Type 0) (gone : ℕ) : Type 0 where
    pub cases : (by : ℕ) (u : V) → After by u → (by ≢ gone) × At by u
    pub stay : (by : ℕ) (u : V) → At by u → by ≢ gone → After by u

  -- the live views but one seat's
  abbrev pub Without : (ℕ → V → Type 0) → ℕ → ℕ → V → Type 0
  Without At gone by u = (by ≢ gone) × At by u

  pub dropped : (At : ℕ → V → Type 0) (gone : ℕ) → Dropped At (Without At gone) gone
  dropped At gone = record { cases = λ by u l. l; stay = λ by u l apart. (apart, l) }

  pub same_view : (views : List V) (a b : ℕ) (x y : V) → get_elem? views a ≡ some x → get_elem? views b ≡ some y → a ≡ b → x ≡ y
  same_view views a b x y p q e = some-injective x y (sym p ∙ (ap (λ (n : ℕ). get_elem? views n) e ∙ q))

module _ {V : Type 0} (is_live : V → Bool) where
  pub turned : (views : List V) (id : ℕ) (v w : V) → get_elem? views id ≡ some v → is_live w ≡ true → Turned (IsLive is_live views) (IsLive is_live (set views id w)) id w
  turned views id v w at lives = record {
    cases = λ by u l. ⊎_elim (λ t. inl t) (λ t. inr (t.0, (t.1, l.1))) (at_set views id by w u l.0);
    here = (set_here views id w (inside views id v at), lives);
    stay = λ by u l apart. (set_else views id by w apart ∙ l.0, l.1);
  }

  pub added : (views : List V) (r : V) → is_live r ≡ true → Added (IsLive is_live views) (IsLive is_live (views ++ r ∷ [])) (length views) r
  added views r lives = record {
    cases = λ by u l. ⊎_elim (λ t. let h = inside views by u t in inr ((λ e. omega arith), (t, l.1))) (λ t. inl t) (at_end views r u by l.0);
    here = (at_last views r (length views) refl, lives);
    stay = λ by u l. (at_longer views (r ∷ []) by u l.0, l.1);
  }

  -- two views are put together in the first seat, and the second is spent
  pub merged : (views : List V) (id other : ℕ) (v both gone : V) → get_elem? views id ≡ some v → ¬ (other ≡ id) → is_live both ≡ true → is_live gone ≡ false
      → Turned (Without (IsLive is_live views) other) (IsLive is_live (set (set views id both) other gone)) id both
  merged views id other v both gone at apart lives spent = record {
    cases = λ by u l. ⊎_elim
        (λ t. absurd (true≢false (sym l.1 ∙ (ap is_live (sym t.1) ∙ spent))))
        (λ t. ⊎_elim (λ s. inl s) (λ s. inr (s.0, (t.0, (s.1, l.1)))) (at_set views id by both u t.1))
        (at_set (set views id both) other by gone u l.0);
    here = (set_else (set views id both) other id gone (λ e. apart (sym e)) ∙ set_here views id both (inside views id v at), lives);
    stay = λ by u l other_seat. (set_else (set views id both) other by gone l.0 ∙ (set_else views id by both other_seat ∙ l.1.0), l.1.1);
  }
