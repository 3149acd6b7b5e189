-- What a list has as an element, what it has without a number, and what is known of numbers. For callers too.
use Rattle.std.proofs.Common.{◌≡◌, ◌≢◌, ◌⊎◌, ℕ, ◌==◌, Bool, true, false, if◌then◌else◌, List, [], ◌∷◌, ◌++◌, refl, sym, ◌∙◌, inl, inr, ⊎_elim, arith}
use Rattle.std.proofs.lemmas.Bool.Decides.{nat_tests}
use mathlib.Core.Logic.{dite}
use native.Mathlib.Decide.{ℕ_discrete}
use Rattle.base_core.specs.Lists.{Has}
use Rattle.place_board.specs.declared.view.Known.{Known}
use Rattle.place_board.specs.Words.{without, IsKnown, Agree}

same_number : (a b : ℕ) → (a == b) ≡ true → a ≡ b
same_number a b e = grind (arith, nat_tests)

other_number : (a b : ℕ) → (a == b) ≡ false → a ≢ b
other_number a b e same = grind (arith, nat_tests)

module _ {A : Type 0} where
  pub has_left : (xs ys : List A) (y : A) → Has xs y → Has (xs ++ ys) y
  has_left [] ys y h = absurd h
  has_left (x ∷ xs) ys y h = ⊎_elim (λ e. inl e) (λ t. inr (has_left xs ys y t)) h

  pub has_right : (xs ys : List A) (y : A) → Has ys y → Has (xs ++ ys) y
  has_right [] ys y h = h
  has_right (x ∷ xs) ys y h = inr (has_right xs ys y h)

  pub has_cases : (xs ys : List A) (y : A) → Has (xs ++ ys) y → Has xs y ⊎ Has ys y
  has_cases [] ys y h = inr h
  has_cases (x ∷ xs) ys y h = ⊎_elim (λ e. inl (inl e)) (λ t. ⊎_elim (λ a. inl (inr a)) (λ b. inr b) (has_cases xs ys y t)) h

  pub has_one : (x y : A) → Has (x ∷ []) y → x ≡ y
  has_one x y h = ⊎_elim (λ e. e) (λ t. absurd t) h

pub has_or_not : (xs : List ℕ) (n : ℕ) → Has xs n ⊎ (¬ Has xs n)
has_or_not [] n = inr (λ h. h)
has_or_not (x ∷ xs) n = dite (ℕ_discrete x n) (λ e. inl (inl e)) (λ ne. ⊎_elim (λ h. inl (inr h)) (λ no. inr (λ h. ⊎_elim ne no h)) (has_or_not xs n))

sub_by : (n x m : ℕ) (xs : List ℕ) (b : Bool) → (Has (without n xs) m → Has xs m) → Has (if b then without n xs else x ∷ without n xs) m → (x ≡ m) ⊎ Has xs m
sub_by n x m xs true rest h = inr (rest h)
sub_by n x m xs false rest h = ⊎_elim (λ e. inl e) (λ t. inr (rest t)) h

pub without_sub : (n : ℕ) (xs : List ℕ) (m : ℕ) → Has (without n xs) m → Has xs m
without_sub n [] m h = h
without_sub n (x ∷ xs) m h = sub_by n x m xs (x == n) (without_sub n xs m) h

not_by : (n x m : ℕ) (xs : List ℕ) (b : Bool) → (x == n) ≡ b → (Has (without n xs) m → ¬ (m ≡ n)) → Has (if b then without n xs else x ∷ without n xs) m → ¬ (m ≡ n)
not_by n x m xs true is rest h = rest h
not_by n x m xs false is rest h = ⊎_elim (λ e same. other_number x n is (e ∙ same)) rest h

pub without_not : (n : ℕ) (xs : List ℕ) (m : ℕ) → Has (without n xs) m → ¬ (m ≡ n)
without_not n [] m h = absurd h
without_not n (x ∷ xs) m h = not_by n x m xs (x == n) refl (without_not n xs m) h

keeps_by : (n x m : ℕ) (xs : List ℕ) (b : Bool) → (x == n) ≡ b → ¬ (m ≡ n) → (Has xs m → Has (without n xs) m) → (x ≡ m) ⊎ Has xs m → Has (if b then without n xs else x ∷ without n xs) m
keeps_by n x m xs true is ne rest h = ⊎_elim (λ e. absurd (ne (sym e ∙ same_number x n is))) rest h
keeps_by n x m xs false is ne rest h = ⊎_elim (λ e. inl e) (λ t. inr (rest t)) h

pub without_keeps : (n : ℕ) (xs : List ℕ) (m : ℕ) → ¬ (m ≡ n) → Has xs m → Has (without n xs) m
without_keeps n [] m ne h = h
without_keeps n (x ∷ xs) m ne h = keeps_by n x m xs (x == n) refl ne (without_keeps n xs m ne) h

pub known_more : (k : Known) (knows : List Known) (n : ℕ) → IsKnown knows n → IsKnown (k ∷ knows) n
known_more k knows n (l, has, is) = (l, inr has, is)

pub known_left : (xs ys : List Known) (n : ℕ) → IsKnown xs n → IsKnown (xs ++ ys) n
known_left xs ys n (k, has, is) = (k, has_left xs ys k has, is)

pub known_right : (xs ys : List Known) (n : ℕ) → IsKnown ys n → IsKnown (xs ++ ys) n
known_right xs ys n (k, has, is) = (k, has_right xs ys k has, is)

pub agree_flip : (xs ys : List Known) → Agree xs ys → Agree ys xs
agree_flip xs ys a k l has has' same = sym (a l k has' has (sym same))

pub agree_append : (xs ys zs : List Known) → Agree xs zs → Agree ys zs → Agree (xs ++ ys) zs
agree_append xs ys zs a b k l has has' same = ⊎_elim (λ h. a k l h has' same) (λ h. b k l h has' same) (has_cases xs ys k has)

pub agree_all : (xs ys : List Known) → Agree xs xs → Agree ys ys → Agree xs ys → Agree (xs ++ ys) (xs ++ ys)
agree_all xs ys a b c = agree_append xs ys (xs ++ ys)
    (agree_flip (xs ++ ys) xs (agree_append xs ys xs a (agree_flip xs ys c)))
    (agree_flip (xs ++ ys) ys (agree_append xs ys ys c b))
