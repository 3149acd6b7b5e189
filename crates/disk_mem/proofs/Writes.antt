-- A list that has grown by zeros and is written over is the list with the bytes put in.
use Rattle.std.proofs.Common.{◌≡◌, ◌≢◌, ℕ, ◌+◌, ◌-◌, ◌≤◌, List, [], ◌∷◌, ◌++◌, length, take, drop, replicate, refl, sym, ap, ◌∙◌, inl, inr, arith, length-append}
use Rattle.std.proofs.lemmas.List.{take-append-le, take-replicate, length-replicate, drop_all, take_all, take_at, append-nil}
use Rattle.std.proofs.Math.Seq.{take-append-add}
use Rattle.std.proofs.lemmas.Bool.{cases_lt}
use Rattle.disk_core.specs.Files.{with_bytes}

front_of : (old : List ℕ) (at k : ℕ) → at - length old ≤ k → take at (old ++ replicate k 0) ≡ take at old ++ replicate (at - length old) 0
front_of old at k room =
    elim (cases_lt (length old) at) [
      | inl past ↦
          let n : ℕ = at - length old in
          let place : at ≡ length old + n = omega arith in
          ap (λ m. take m (old ++ replicate k 0)) place ∙ take-append-add old (replicate k 0) n ∙ ap (λ zeros. old ++ zeros) (take-replicate n k 0 room)
          ∙ ap (λ xs. xs ++ replicate n 0) (sym (take_all at old (omega arith)))
      | inr within ↦
          let none : 0 ≡ at - length old = omega arith in
          take-append-le at old (replicate k 0) within ∙ sym (append-nil (take at old)) ∙ ap (λ n. take at old ++ replicate n 0) none
    ]

back_of : (old : List ℕ) (end : ℕ) → drop end (old ++ replicate (end - length old) 0) ≡ drop end old
back_of old end =
    elim (cases_lt (length old) end) [
      | inl past ↦
          drop_all end (old ++ replicate (end - length old) 0) (omega (arith, length-append old (replicate (end - length old) 0), length-replicate {A = ℕ} (end - length old) 0))
          ∙ sym (drop_all end old (omega arith))
      | inr within ↦
          let none : end - length old ≡ 0 = omega arith in
          ap (λ n. drop end (old ++ replicate n 0)) none ∙ ap (drop end) (append-nil old)
    ]

pub with_bytes_from : (old bytes grown lent new : List ℕ) (n at end : ℕ) → bytes ≢ [] → end ≡ at + length bytes → n ≡ length new
    → grown ≡ old ++ replicate (end - length old) 0 → lent ≡ grown → new ≡ (take at lent ++ bytes) ++ drop (at + length bytes) lent
    → take n (new ++ drop (length new) grown) ≡ with_bytes old at bytes
with_bytes_from old [] grown lent new n at end some stops long more same over = absurd (some refl)
with_bytes_from old (b ∷ bytes) grown lent new n at end some stops long more same over =
    take_at new (drop (length new) grown) n (sym long) ∙ over
    ∙ ap (λ xs. (take at xs ++ (b ∷ bytes)) ++ drop (at + length (b ∷ bytes)) xs) (same ∙ more)
    ∙ ap (λ xs. (xs ++ (b ∷ bytes)) ++ drop (at + length (b ∷ bytes)) (old ++ replicate (end - length old) 0)) (front_of old at (end - length old) (omega arith))
    ∙ ap (λ m. ((take at old ++ replicate (at - length old) 0) ++ (b ∷ bytes)) ++ drop m (old ++ replicate (end - length old) 0)) (sym stops)
    ∙ ap (λ xs. ((take at old ++ replicate (at - length old) 0) ++ (b ∷ bytes)) ++ xs) (back_of old end)
    ∙ ap (λ m. ((take at old ++ replicate (at - length old) 0) ++ (b ∷ bytes)) ++ drop m old) stops
