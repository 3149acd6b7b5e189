-- The last line that begins up to a key has it.
use Rattle.std.proofs.Common.{◌≡◌, ◌⊎◌, ◌<◌, ◌≤◌, ℕ, suc, true, false, List, length, take, drop, get_or, refl, sym, ap, ◌∙◌, subst, inl, inr, ⊎_elim, arith}
use Rattle.base_core.specs.Lists.{Has}
use Rattle.fed_bytes.specs.Keys.{IsIn, IsUpTo}
use Rattle.fed_bytes.proofs.Orders.{no_answer, up_to_end}
use Rattle.row_core.specs.declared.rows.Index.{Index}
use Rattle.place_core.specs.declared.shards.Line.{Line}
use Rattle.place_core.specs.Shown.{place_of}
use Rattle.place_core.specs.Places.{HasKey, LineComesBefore}
use Rattle.place_core.specs.Lines.{up_to, AreLines, IsHeldAt}
use Rattle.place_core.proofs.Standing.{has_at, has_at_front, has_parts, has_some, stand_last}
use Rattle.place_core.proofs.Orders.{place_one, before_up_to_too, up_to_true, up_to_when}

module _ (lines : List Line) (index : Index) (key : List ℕ) (are : AreLines lines) where
  holds : Line
  holds = (are.cover.some index key).0

  passes : (line : Line) → HasKey line index key → up_to (place_of index) key line ≡ true
  passes line has = up_to_when (place_of index) key line (inr (ap place_of has.0, has.1.0))

  -- a line from which the one that has the key is not behind
  same_line : (one found : Line) → Has lines one → Has lines found → HasKey one index key → up_to (place_of index) key found ≡ true → (one ≡ found) ⊎ LineComesBefore one found → HasKey found index key
  same_line one found has there holds passed (inl same) = subst (λ line. HasKey line index key) same holds
  same_line one found has there holds passed (inr (inl below)) =
      let e = ap place_of holds.0 in
      absurd (⊎_elim {C = ⊥} (λ l. omega arith) (λ r. let f = r.0 in omega arith) (up_to_true (place_of index) key found passed))
  same_line one found has there holds passed (inr (inr (same, before))) =
      let e = ap place_of holds.0 in
      let upto = ⊎_elim {C = IsUpTo found.span.left key} (λ l. absurd (omega arith)) (λ r. r.1) (up_to_true (place_of index) key found passed) in
      let left : IsIn one.span found.span.left = (before_up_to_too one.span.left found.span.left before, up_to_end found.span.left key one.span.right upto holds.1.1) in
      let is = are.cover.one one.index found.span.left one found has there (refl, left) (place_one found.index one.index (sym same), are.left found there) in
      subst (λ line. HasKey line index key) is holds

  at_last : (behind : ℕ) → behind ≤ length lines
      → ((line : Line) → Has (take behind lines) line → up_to (place_of index) key line ≡ true)
      → ((line : Line) → Has (drop behind lines) line → up_to (place_of index) key line ≡ false)
      → (1 ≤ behind) × ((at : ℕ) → suc at ≡ behind → IsHeldAt lines index key at)
  at_last behind bound front back =
      let found = are.cover.some index key in
      let one = found.0 in
      let here : Has (take behind lines) one = ⊎_elim (λ f. f) (λ b. no_answer (sym (back one b) ∙ passes one found.2)) (has_parts behind lines one found.1) in
      (has_some behind lines one here, λ at is. held behind bound front one found.1 found.2 here at is) where
        held : (behind : ℕ) → behind ≤ length lines → ((line : Line) → Has (take behind lines) line → up_to (place_of index) key line ≡ true)
            → (one : Line) → Has lines one → HasKey one index key → Has (take behind lines) one → (at : ℕ) → suc at ≡ behind → IsHeldAt lines index key at
        held behind bound front one has holds here at is = record {
          below = omega arith;
          line = λ d.
              let below : at < length lines = omega arith in
              let front' = subst (λ n. Has (take n lines) (get_or lines at d)) is (has_at_front lines at d below) in
              same_line one (get_or lines at d) has (has_at lines at d below) holds (front (get_or lines at d) front')
              (stand_last LineComesBefore lines are.order at d below one (subst (λ n. Has (take n lines) one) (sym is) here));
        }

pub held_at : (lines : List Line) (index : Index) (key : List ℕ) → AreLines lines → (behind : ℕ) → behind ≤ length lines
    → ((line : Line) → Has (take behind lines) line → up_to (place_of index) key line ≡ true)
    → ((line : Line) → Has (drop behind lines) line → up_to (place_of index) key line ≡ false)
    → (1 ≤ behind) × ((at : ℕ) → suc at ≡ behind → IsHeldAt lines index key at)
held_at lines index key are behind bound front back = at_last lines index key are behind bound front back
