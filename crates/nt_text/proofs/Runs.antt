-- Runs of a class of bytes, cut off a list and found again.
use Rattle.std.proofs.Common.{◌≡◌, ℕ, Bool, true, false, cond, List, [], ◌∷◌, ◌++◌, refl, ap, ◌∙◌}
use Rattle.std.specs.List.{list_all}
use Rattle.std.proofs.lemmas.Bool.{and_parts, and_from, cond-true, cond-false}
use Rattle.nt_text.specs.Reading.{run, behind_run}

-- the run and what is behind it are all
pub run_parts : (test : ℕ → Bool) (bytes : List ℕ) → bytes ≡ run test bytes ++ behind_run test bytes
run_parts test [] = refl
run_parts test (b ∷ bytes) =
    elim (test b) as (λ v. b ∷ bytes ≡ cond v (b ∷ run test bytes) [] ++ cond v (behind_run test bytes) (b ∷ bytes)) [
      | true ↦ ap (λ (x : List ℕ). b ∷ x) (run_parts test bytes)
      | false ↦ refl
    ]

-- the run passes the test
pub run_passes : (test : ℕ → Bool) (bytes : List ℕ) → list_all test (run test bytes) ≡ true
run_passes test [] = refl
run_passes test (b ∷ bytes) =
    (elim (test b) as (λ v. test b ≡ v → list_all test (cond v (b ∷ run test bytes) []) ≡ true) [
      | true ↦ λ e. and_from (test b) (list_all test (run test bytes)) e (run_passes test bytes)
      | false ↦ λ e. refl
    ]) refl

-- where a byte that fails stands behind bytes that pass, they are the run
pub run_again : (test : ℕ → Bool) (xs : List ℕ) (y : ℕ) (ys : List ℕ) → list_all test xs ≡ true → test y ≡ false → run test (xs ++ y ∷ ys) ≡ xs
run_again test [] y ys pass fail = cond-false (test y) (y ∷ run test ys) [] fail
run_again test (x ∷ xs) y ys pass fail =
    let h = and_parts (test x) (list_all test xs) pass in
    cond-true (test x) (x ∷ run test (xs ++ y ∷ ys)) [] h.0 ∙ ap (λ (r : List ℕ). x ∷ r) (run_again test xs y ys h.1 fail)

-- and the byte is the first behind it
pub behind_again : (test : ℕ → Bool) (xs : List ℕ) (y : ℕ) (ys : List ℕ) → list_all test xs ≡ true → test y ≡ false → behind_run test (xs ++ y ∷ ys) ≡ y ∷ ys
behind_again test [] y ys pass fail = cond-false (test y) (behind_run test ys) (y ∷ ys) fail
behind_again test (x ∷ xs) y ys pass fail =
    let h = and_parts (test x) (list_all test xs) pass in
    cond-true (test x) (behind_run test (xs ++ y ∷ ys)) (x ∷ (xs ++ y ∷ ys)) h.0 ∙ behind_again test xs y ys h.1 fail

-- nothing stands behind bytes that all pass
pub behind_none : (test : ℕ → Bool) (xs : List ℕ) → list_all test xs ≡ true → behind_run test xs ≡ []
behind_none test [] pass = refl
behind_none test (x ∷ xs) pass =
    let h = and_parts (test x) (list_all test xs) pass in
    cond-true (test x) (behind_run test xs) (x ∷ xs) h.0 ∙ behind_none test xs h.1

-- a run goes on behind bytes that pass
pub run-append : (test : ℕ → Bool) (xs ys : List ℕ) → list_all test xs ≡ true → run test (xs ++ ys) ≡ xs ++ run test ys
run-append test [] ys pass = refl
run-append test (x ∷ xs) ys pass =
    let h = and_parts (test x) (list_all test xs) pass in
    cond-true (test x) (x ∷ run test (xs ++ ys)) [] h.0 ∙ ap (λ (r : List ℕ). x ∷ r) (run-append test xs ys h.1)

pub behind_run-append : (test : ℕ → Bool) (xs ys : List ℕ) → list_all test xs ≡ true → behind_run test (xs ++ ys) ≡ behind_run test ys
behind_run-append test [] ys pass = refl
behind_run-append test (x ∷ xs) ys pass =
    let h = and_parts (test x) (list_all test xs) pass in
    cond-true (test x) (behind_run test (xs ++ ys)) (x ∷ (xs ++ ys)) h.0 ∙ behind_run-append test xs ys h.1
