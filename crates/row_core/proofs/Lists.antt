-- Lists read as sets, and what holds of each element.
use Rattle.std.proofs.Common.{List, [], ◌∷◌, ◌++◌, refl, subst, inl, inr}
use Rattle.std.specs.Prelude.{◌⊎◌}
use Rattle.std.specs.List.{AllByRecursion}
use Rattle.base_core.specs.Lists.{Has}

-- what holds of each element holds of one that stands in the list
pub of_each : {A : Type 0} (P : A → Type 0) (xs : List A) → AllByRecursion P xs → (x : A) → Has xs x → P x
of_each P [] all x h = absurd h
of_each P (y ∷ xs) all x (inl e) = subst P e all.0
of_each P (y ∷ xs) all x (inr h) = of_each P xs all.1 x h

pub each : {A : Type 0} (P : A → Type 0) (xs : List A) → ((x : A) → Has xs x → P x) → AllByRecursion P xs
each P [] f = tt
each P (y ∷ xs) f = (f y (inl refl), each P xs (λ x h. f x (inr h)))

pub each_weaker : {A : Type 0} (P Q : A → Type 0) (xs : List A) → ((x : A) → P x → Q x) → AllByRecursion P xs → AllByRecursion Q xs
each_weaker P Q [] f all = tt
each_weaker P Q (x ∷ xs) f all = (f x all.0, each_weaker P Q xs f all.1)

pub all_of_both : {A : Type 0} (P : A → Type 0) (xs ys : List A) → AllByRecursion P xs → AllByRecursion P ys → AllByRecursion P (xs ++ ys)
all_of_both P [] ys first second = second
all_of_both P (x ∷ xs) ys first second = (first.0, all_of_both P xs ys first.1 second)

pub in_front : {A : Type 0} (xs ys : List A) (z : A) → Has xs z → Has (xs ++ ys) z
in_front [] ys z h = absurd h
in_front (x ∷ xs) ys z (inl e) = inl e
in_front (x ∷ xs) ys z (inr h) = inr (in_front xs ys z h)

pub behind : {A : Type 0} (xs ys : List A) (z : A) → Has ys z → Has (xs ++ ys) z
behind [] ys z h = h
behind (x ∷ xs) ys z h = inr (behind xs ys z h)

onto : {A : Type 0} (x : A) (xs ys : List A) (z : A) → Has xs z ⊎ Has ys z → Has (x ∷ xs) z ⊎ Has ys z
onto x xs ys z (inl h) = inl (inr h)
onto x xs ys z (inr h) = inr h

pub in_one : {A : Type 0} (xs ys : List A) (z : A) → Has (xs ++ ys) z → Has xs z ⊎ Has ys z
in_one [] ys z h = inr h
in_one (x ∷ xs) ys z (inl e) = inl (inl e)
in_one (x ∷ xs) ys z (inr h) = onto x xs ys z (in_one xs ys z h)
