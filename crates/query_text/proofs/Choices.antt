-- A choice by a test, under a function.
use Rattle.std.proofs.Common.{◌≡◌, ℕ, Bool, true, false, cond, ◌==◌, ◌⊎◌, Option, Some, None, refl, sym, ap, ◌∙◌, inl, inr}
use Rattle.std.proofs.lemmas.Bool.{ne_eqb, cond-true, cond-false}

pub split : {A B : Type 0} (f : A → B) (test : Bool) (a b : A) (v : B) → f (cond test a b) ≡ v → ((test ≡ true) × (f a ≡ v)) ⊎ ((test ≡ false) × (f b ≡ v))
split f true a b v h = inl (refl, h)
split f false a b v h = inr (refl, h)

-- a choice that gives something took what it offers
pub only : {A B : Type 0} (f : Option A → Option B) (test : Bool) (a : A) (v : B) → f None ≡ None → f (cond test (Some a) None) ≡ Some v
    → (test ≡ true) × (f (Some a) ≡ Some v)
only f true a v none h = (refl, h)
only f false a v none h = absurd cc

pub when_true : {A B : Type 0} (f : A → B) (test : Bool) (a b : A) → test ≡ true → f (cond test a b) ≡ f a
when_true f test a b h = ap f (cond-true test a b h)

pub when_false : {A B : Type 0} (f : A → B) (test : Bool) (a b : A) → test ≡ false → f (cond test a b) ≡ f b
when_false f test a b h = ap f (cond-false test a b h)

-- what passes a test is no number that doesn't
pub other_than : (test : ℕ → Bool) (n b : ℕ) → test n ≡ false → test b ≡ true → (b == n) ≡ false
other_than test n b fails passes = ne_eqb b n (λ e. let same : true ≡ false = sym passes ∙ ap test e ∙ fails in absurd cc)
