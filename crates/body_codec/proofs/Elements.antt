-- Lists of fields: one more, and what holds of each.
use Rattle.std.proofs.Common.{◌≡◌, ℕ, zero, suc, ◌<◌, List, [], ◌∷◌, ◌++◌, take, Some, Option, None, inl, inr, refl, sym, ◌∙◌, ap, append_assoc, arith}
use Rattle.std.specs.Prelude.{IfSome, IfNone}
use Rattle.std.specs.List.{flat_map, slice_get, AllByRecursion}
use Rattle.std.proofs.lemmas.List.{append-nil}
use Rattle.std.proofs.lemmas.Option.{none-some}
use Rattle.base_core.specs.Lists.{Has}

flat_map-one_more : {A B : Type 0} → (f : A → List B) (xs : List A) (x : A) → flat_map f (xs ++ x ∷ []) ≡ flat_map f xs ++ f x
flat_map-one_more f [] x = append-nil (f x)
flat_map-one_more f (y ∷ xs) x = ap (λ l. f y ++ l) (flat_map-one_more f xs x) ∙ sym (append_assoc (f y) (flat_map f xs) (f x))

-- what was cut off the front, and one more field of the rest
pub cut_more : {A B : Type 0} → (f : A → List B) (xs : List A) (x : A) (bytes rest behind : List B) → bytes ≡ flat_map f xs ++ rest → rest ≡ f x ++ behind
    → bytes ≡ flat_map f (xs ++ x ∷ []) ++ behind
cut_more f xs x bytes rest behind cut field =
    cut ∙ ap (λ l. flat_map f xs ++ l) field ∙ sym (append_assoc (flat_map f xs) (f x) behind) ∙ ap (λ l. l ++ behind) (sym (flat_map-one_more f xs x))

pub All-push : {A : Type 0} (P : A → Type 0) → (xs : List A) (x : A) → AllByRecursion P xs → P x → AllByRecursion P (xs ++ x ∷ [])
All-push P [] x all here = (here, tt)
All-push P (y ∷ xs) x all here = (all.0, All-push P xs x all.1 here)

pub All-from_each : {A : Type 0} (P : A → Type 0) → (xs : List A) → ((x : A) → Has xs x → P x) → AllByRecursion P xs
All-from_each P [] each = tt
All-from_each P (x ∷ xs) each = (each x (inl refl), All-from_each P xs (λ y h. each y (inr h)))

pub All-append : {A : Type 0} (P : A → Type 0) → (xs ys : List A) → AllByRecursion P (xs ++ ys) → AllByRecursion P xs × AllByRecursion P ys
All-append P [] ys all = (tt, all)
All-append P (x ∷ xs) ys all = let rest = All-append P xs ys all.1 in ((all.0, rest.0), rest.1)

pub IfSome-like : {A : Type 0} (P Q : A → Type 0) → (found : Option A) → ((x : A) → P x → Q x) → IfSome found P → IfSome found Q
IfSome-like P Q None turn is = tt
IfSome-like P Q (Some x) turn is = turn x is

pub IfNone-like : {A : Type 0} {P Q : Type 0} → (found : Option A) → (P → Q) → IfNone found P → IfNone found Q
IfNone-like None turn is = turn is
IfNone-like (Some x) turn is = tt

-- ---- the front of a list, by places

pub slice_get-take : {A : Type 0} → (n k : ℕ) (xs : List A) → k < n → slice_get (take n xs) k ≡ slice_get xs k
slice_get-take zero k xs below = absurd (omega arith)
slice_get-take (suc n) k [] below = refl
slice_get-take (suc n) zero (x ∷ xs) below = refl
slice_get-take (suc n) (suc k) (x ∷ xs) below = slice_get-take n k xs (omega arith)

pub slice_get_in-take : {A : Type 0} → (n k : ℕ) (xs : List A) (x : A) → slice_get (take n xs) k ≡ Some x → k < n
slice_get_in-take zero k xs x e = absurd (none-some x e)
slice_get_in-take (suc n) k [] x e = absurd (none-some x e)
slice_get_in-take (suc n) zero (y ∷ xs) x e = omega arith
slice_get_in-take (suc n) (suc k) (y ∷ xs) x e = let below = slice_get_in-take n k xs x e in omega arith

pub take-at_place : {A : Type 0} → (k : ℕ) (xs : List A) (x : A) → slice_get xs k ≡ Some x → take (suc k) xs ≡ take k xs ++ x ∷ []
take-at_place k [] x e = absurd (none-some x e)
take-at_place zero (y ∷ xs) x e = ap (λ l. l ∷ []) (let same : Some y ≡ Some x = e in cc)
take-at_place (suc k) (y ∷ xs) x e = ap (λ l. y ∷ l) (take-at_place k xs x e)
