-- Facts on lists that the proofs share.
use Rattle.std.proofs.Common.{◌≡◌, ℕ, zero, suc, ◌+◌, List, [], ◌∷◌, ◌++◌, length, map, Bool, true, false, cond, Some, slice_get, refl, ◌∙◌, ap, arith, zero-add}
use Rattle.std.specs.List.{filter, AllByRecursion}

pub all_map : {A B : Type 0} (P : A → Type 0) (Q : B → Type 0) (f : A → B) → ((x : A) → P x → Q (f x)) → (xs : List A) → AllByRecursion P xs → AllByRecursion Q (map f xs)
all_map P Q f makes [] all = tt
all_map P Q f makes (x ∷ xs) all = (makes x all.0, all_map P Q f makes xs all.1)

pub all_append : {A : Type 0} (P : A → Type 0) (xs ys : List A) → AllByRecursion P xs → AllByRecursion P ys → AllByRecursion P (xs ++ ys)
all_append P [] ys first second = second
all_append P (x ∷ xs) ys first second = (first.0, all_append P xs ys first.1 second)

pub all_weaker : {A : Type 0} (P Q : A → Type 0) → ((x : A) → P x → Q x) → (xs : List A) → AllByRecursion P xs → AllByRecursion Q xs
all_weaker P Q weaker [] all = tt
all_weaker P Q weaker (x ∷ xs) all = (weaker x all.0, all_weaker P Q weaker xs all.1)

filter_step : {A : Type 0} (P : A → Type 0) (x : A) (xs : List A) (b : Bool) → P x → AllByRecursion P xs → AllByRecursion P (cond b (x ∷ xs) xs)
filter_step P x xs true first all = (first, all)
filter_step P x xs false first all = all

pub all_filter : {A : Type 0} (P : A → Type 0) (test : A → Bool) (xs : List A) → AllByRecursion P xs → AllByRecursion P (filter test xs)
all_filter P test [] all = tt
all_filter P test (x ∷ xs) all = filter_step P x (filter test xs) (test x) all.0 (all_filter P test xs all.1)

-- an element of a list is one of each longer list
pub get_front : {A : Type 0} (xs ys : List A) (k : ℕ) (x : A) → slice_get xs k ≡ Some x → slice_get (xs ++ ys) k ≡ Some x
get_front [] ys k x is = cc
get_front (y ∷ xs) ys zero x is = is
get_front (y ∷ xs) ys (suc k) x is = get_front xs ys k x is

-- an element behind a list
pub get_behind : {A : Type 0} (xs ys : List A) (k n : ℕ) → n ≡ length xs + k → slice_get (xs ++ ys) n ≡ slice_get ys k
get_behind [] ys k n is = ap (slice_get ys) (is ∙ zero-add k)
get_behind (x ∷ xs) ys k zero is = absurd (omega (arith, is))
get_behind (x ∷ xs) ys k (suc n) is = get_behind xs ys k n (omega (arith, is))

same_step : {A B : Type 0} (g : A → B) (b c : Bool) (y x : A) (ys xs : List A) → b ≡ c → g y ≡ g x → map g ys ≡ map g xs
    → map g (cond b (y ∷ ys) ys) ≡ map g (cond c (x ∷ xs) xs)
same_step g true true y x ys xs is first rest = cc
same_step g true false y x ys xs is first rest = cc
same_step g false true y x ys xs is first rest = cc
same_step g false false y x ys xs is first rest = rest

-- what a filter leaves of changed elements, where the change is in what neither the test nor the view sees
pub filter_same : {A B : Type 0} (p q : A → Bool) (f : A → A) (g : A → B) → ((x : A) → p (f x) ≡ q x) → ((x : A) → g (f x) ≡ g x) → (xs : List A)
    → map g (filter p (map f xs)) ≡ map g (filter q xs)
filter_same p q f g tests views [] = refl
filter_same p q f g tests views (x ∷ xs) =
    same_step g (p (f x)) (q x) (f x) x (filter p (map f xs)) (filter q xs) (tests x) (views x) (filter_same p q f g tests views xs)
