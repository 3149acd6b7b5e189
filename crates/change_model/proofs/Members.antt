-- What stands in a list, and at which place.
use Rattle.std.proofs.Common.{◌≡◌, ℕ, zero, suc, ◌<◌, List, [], ◌∷◌, ◌++◌, map, length, Some, ◌⊎◌, inl, inr, ◌↔◌, refl, sym, ◌∙◌, ap, subst, arith}
use Rattle.std.specs.List.{slice_get, AllByRecursion}
use Rattle.std.proofs.lemmas.Option.{none-some, same_Some}
use Rattle.base_core.specs.Lists.{Has, AreDistinct}

-- what is put behind a list moves no place
pub slice_get-append : {A : Type 0} → (xs ys : List A) (k : ℕ) → k < length xs → slice_get (xs ++ ys) k ≡ slice_get xs k
slice_get-append [] ys k below = absurd (omega arith)
slice_get-append (x ∷ xs) ys zero below = refl
slice_get-append (x ∷ xs) ys (suc k) below = slice_get-append xs ys k (omega arith)

pub slice_get-last : {A : Type 0} → (xs : List A) (x : A) → slice_get (xs ++ x ∷ []) (length xs) ≡ Some x
slice_get-last [] x = refl
slice_get-last (first ∷ xs) x = slice_get-last xs x

pub length-one_more : {A : Type 0} → (xs : List A) (x : A) → length (xs ++ x ∷ []) ≡ suc (length xs)
length-one_more [] x = refl
length-one_more (first ∷ xs) x = ap suc (length-one_more xs x)

pub slice_get_below : {A : Type 0} → (xs : List A) (k : ℕ) → k < length xs → (x : A) × (slice_get xs k ≡ Some x)
slice_get_below [] k below = absurd (omega arith)
slice_get_below (x ∷ xs) zero below = (x, refl)
slice_get_below (x ∷ xs) (suc k) below = slice_get_below xs k (omega arith)

pub place_of : {A : Type 0} → (xs : List A) (y : A) → Has xs y → (place : ℕ) × (slice_get xs place ≡ Some y)
place_of [] y h = absurd h
place_of (x ∷ xs) y (inl same) = (zero, ap Some same)
place_of (x ∷ xs) y (inr more) = let rest = place_of xs y more in (suc rest.0, rest.1)

pub at_place : {A : Type 0} → (xs : List A) (k : ℕ) (y : A) → slice_get xs k ≡ Some y → Has xs y
at_place [] k y e = absurd (none-some y e)
at_place (x ∷ xs) zero y e = inl (same_Some x y e)
at_place (x ∷ xs) (suc k) y e = inr (at_place xs k y e)

-- in a distinct list an element has one place
pub one_place : {A : Type 0} → (xs : List A) (i j : ℕ) (y : A) → AreDistinct xs → slice_get xs i ≡ Some y → slice_get xs j ≡ Some y → i ≡ j
one_place [] i j y apart e f = absurd (none-some y e)
one_place (x ∷ xs) zero zero y apart e f = refl
one_place (x ∷ xs) zero (suc j) y apart e f = absurd (apart.0 (at_place xs j x (f ∙ ap Some (sym (same_Some x y e)))))
one_place (x ∷ xs) (suc i) zero y apart e f = absurd (apart.0 (at_place xs i x (e ∙ ap Some (sym (same_Some x y f)))))
one_place (x ∷ xs) (suc i) (suc j) y apart e f = ap suc (one_place xs i j y apart.1 e f)

-- what stands in two lists together
pub Has-append : {A : Type 0} → (xs ys : List A) (y : A) → Has (xs ++ ys) y ↔ (Has xs y ⊎ Has ys y)
Has-append [] ys y = (λ h. inr h, λ h. elim h [ inl none ↦ absurd none | inr here ↦ here ])
Has-append (x ∷ xs) ys y =
    let rest = Has-append xs ys y in (
      λ h. elim h [ inl is ↦ inl (inl is) | inr more ↦ elim (rest.0 more) [ inl left ↦ inl (inr left) | inr right ↦ inr right ] ],
      λ h. elim h [ inl left ↦ elim left [ inl is ↦ inl is | inr more ↦ inr (rest.1 (inl more)) ] | inr right ↦ inr (rest.1 (inr right)) ],
    )

-- a new element behind a distinct list
pub AreDistinct-push : {A : Type 0} → (xs : List A) (y : A) → AreDistinct xs → (Has xs y → ⊥) → AreDistinct (xs ++ y ∷ [])
AreDistinct-push [] y apart new = (λ h. h, tt)
AreDistinct-push (x ∷ xs) y apart new = (
  λ h. elim ((Has-append xs (y ∷ []) x).0 h) [ inl left ↦ apart.0 left | inr right ↦ elim right [ inl is ↦ new (inl (sym is)) | inr none ↦ none ] ],
  AreDistinct-push xs y apart.1 (λ h. new (inr h)),
)

pub Has-map : {A B : Type 0} → (f : A → B) (xs : List A) (x : A) → Has xs x → Has (map f xs) (f x)
Has-map f [] x h = h
Has-map f (first ∷ xs) x (inl same) = inl (ap f same)
Has-map f (first ∷ xs) x (inr more) = inr (Has-map f xs x more)

pub Has-from_map : {A B : Type 0} → (f : A → B) (xs : List A) (y : B) → Has (map f xs) y → (x : A) × Has xs x × (f x ≡ y)
Has-from_map f [] y h = absurd h
Has-from_map f (x ∷ xs) y (inl same) = (x, inl refl, same)
Has-from_map f (x ∷ xs) y (inr more) = let rest = Has-from_map f xs y more in (rest.0, inr rest.1, rest.2)

-- what holds of all holds of each
pub each_of : {A : Type 0} (P : A → Type 0) → (xs : List A) (x : A) → AllByRecursion P xs → Has xs x → P x
each_of P [] x all h = absurd h
each_of P (first ∷ xs) x all (inl same) = subst P same all.0
each_of P (first ∷ xs) x all (inr more) = each_of P xs x all.1 more

-- what holds of all holds of those in front
pub AllByRecursion-front : {A : Type 0} (P : A → Type 0) → (xs ys : List A) → AllByRecursion P (xs ++ ys) → AllByRecursion P xs
AllByRecursion-front P [] ys all = tt
AllByRecursion-front P (x ∷ xs) ys all = (all.0, AllByRecursion-front P xs ys all.1)

-- whether an element stands in a list, where equality can be told
pub Has-told : {A : Type 0} → ((a b : A) → (a ≡ b) ⊎ (a ≡ b → ⊥)) → (xs : List A) (y : A) → Has xs y ⊎ (Has xs y → ⊥)
Has-told told [] y = inr (λ h. h)
Has-told told (x ∷ xs) y =
    elim (told x y) [
      | inl same ↦ inl (inl same)
      | inr other ↦ elim (Has-told told xs y) [ inl more ↦ inl (inr more) | inr none ↦ inr (λ h. elim h [ inl same ↦ other same | inr more ↦ none more ]) ]
    ]
