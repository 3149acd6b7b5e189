-- The order of lines by index and left end, and the test by which the search among them goes.
use Rattle.std.proofs.Common.{◌≡◌, ◌⊎◌, ◌<◌, ◌==◌, ℕ, zero, suc, Bool, true, false, not, if◌then◌else◌, nat_lt, List, refl, sym, ap, ◌∙◌, inl, inr, ⊎_elim, arith, Ordering}
use Rattle.std.specs.declared.cmp.Ordering.TheVariants.{Less, Equal, Greater}
use Rattle.std.specs.Ordering.{is_lt, is_le, nat_cmp}
use Rattle.std.specs.Cmp.Lexicographic.{slice_cmp}
use Rattle.std.proofs.lemmas.Bool.Decides.{nat_tests}
use Rattle.std.proofs.lemmas.Map.Lookups.{exact_bytes}
use Rattle.fed_bytes.specs.Keys.{IsBefore, IsUpTo}
use Rattle.fed_bytes.proofs.Orders.{no_answer, turned, up_to-itself, up_to-chain}
use Rattle.row_core.specs.declared.rows.Index.{Index}
use Rattle.row_core.specs.declared.rows.Index.TheVariants.{T2i, I2t, Spo, Pos, Osp}
use Rattle.place_core.specs.declared.shards.Line.{Line}
use Rattle.place_core.specs.Shown.{place_of}
use Rattle.place_core.specs.Places.{LineComesBefore}
use Rattle.place_core.specs.Lines.{up_to, ShareLeft}

index_at : ℕ → Index
index_at zero = T2i
index_at (suc zero) = I2t
index_at (suc (suc zero)) = Spo
index_at (suc (suc (suc zero))) = Pos
index_at (suc (suc (suc (suc n)))) = Osp

index_back : (index : Index) → index_at (place_of index) ≡ index
unfolding index_at
index_back T2i = refl
index_back I2t = refl
index_back Spo = refl
index_back Pos = refl
index_back Osp = refl

-- indexes with one place are one
pub place_one : (one other : Index) → place_of one ≡ place_of other → one ≡ other
place_one one other same = sym (index_back one) ∙ ap index_at same ∙ index_back other

pub before_turned : (a b : List ℕ) → is_le (slice_cmp nat_cmp a b) ≡ false → IsBefore b a
before_turned a b failed = turned b a ∙ ap not failed

not_both : (s t : Bool) → s ≡ not t → s ≡ true → t ≡ true → ⊥
not_both s t e p q = cc

pub not_before_itself : (a : List ℕ) → ¬ IsBefore a a
not_before_itself a h = not_both _ _ (turned a a) h (up_to-itself a)

lt_le : (r : Ordering) → is_lt r ≡ true → is_le r ≡ true
lt_le Less h = refl
lt_le Equal h = no_answer h
lt_le Greater h = no_answer h

pub before_up_to_too : (a b : List ℕ) → IsBefore a b → IsUpTo a b
before_up_to_too a b h = lt_le _ h

le_cases : (r : Ordering) → is_le r ≡ true → (is_lt r ≡ true) ⊎ (r ≡ Equal)
le_cases Less h = inl refl
le_cases Equal h = inr refl
le_cases Greater h = no_answer h

-- up to another key and not that key: before it
pub before_other : (a b : List ℕ) → IsUpTo a b → ¬ (a ≡ b) → IsBefore a b
before_other a b h other = ⊎_elim (λ l. l) (λ e. absurd (other (exact_bytes a b e))) (le_cases _ h)

true_by : (t x : Bool) (i j : ℕ) → (i == j) ≡ t → (if t then x else nat_lt i j) ≡ true → (i < j) ⊎ ((i ≡ j) × (x ≡ true))
true_by true x i j is h = inr (grind (arith, nat_tests), h)
true_by false x i j is h = inl (grind (arith, nat_tests))

false_by : (t x : Bool) (i j : ℕ) → (i == j) ≡ t → (if t then x else nat_lt i j) ≡ false → (j < i) ⊎ ((i ≡ j) × (x ≡ false))
false_by true x i j is h = inr (grind (arith, nat_tests), h)
false_by false x i j is h = inl (grind (arith, nat_tests))

when_by : (t x : Bool) (i j : ℕ) → (i == j) ≡ t → (i < j) ⊎ ((i ≡ j) × (x ≡ true)) → (if t then x else nat_lt i j) ≡ true
when_by true x i j is (inl below) = absurd (grind (arith, nat_tests))
when_by true x i j is (inr same) = same.1
when_by false x i j is (inl below) = grind (arith, nat_tests)
when_by false x i j is (inr same) = let e = same.0 in absurd (grind (arith, nat_tests))

pub up_to_true : (place : ℕ) (key : List ℕ) (line : Line) → up_to place key line ≡ true → (place_of line.index < place) ⊎ ((place_of line.index ≡ place) × IsUpTo line.span.left key)
up_to_true place key line h = true_by (place_of line.index == place) _ _ _ refl h

pub up_to_false : (place : ℕ) (key : List ℕ) (line : Line) → up_to place key line ≡ false → (place < place_of line.index) ⊎ ((place_of line.index ≡ place) × IsBefore key line.span.left)
up_to_false place key line h = ⊎_elim (λ l. inl l) (λ r. inr (r.0, before_turned line.span.left key r.1)) (false_by (place_of line.index == place) _ _ _ refl h)

pub up_to_when : (place : ℕ) (key : List ℕ) (line : Line) → (place_of line.index < place) ⊎ ((place_of line.index ≡ place) × IsUpTo line.span.left key) → up_to place key line ≡ true
up_to_when place key line h = when_by (place_of line.index == place) _ _ _ refl h

-- the test passes before each line that passes it
pub up_to_down : (place : ℕ) (key : List ℕ) (one other : Line) → LineComesBefore one other → up_to place key other ≡ true → up_to place key one ≡ true
up_to_down place key one other before h = up_to_when place key one (joined before (up_to_true place key other h)) where
  joined : LineComesBefore one other → (place_of other.index < place) ⊎ ((place_of other.index ≡ place) × IsUpTo other.span.left key) → (place_of one.index < place) ⊎ ((place_of one.index ≡ place) × IsUpTo one.span.left key)
  joined (inl a) (inl b) = inl (omega arith)
  joined (inl a) (inr b) = let e = b.0 in inl (omega arith)
  joined (inr a) (inl b) = let e = a.0 in inl (omega arith)
  joined (inr a) (inr b) = inr (a.0 ∙ b.0, up_to-chain one.span.left other.span.left key (before_up_to_too one.span.left other.span.left a.1) b.1)

pub not_before_line : (line : Line) → ¬ LineComesBefore line line
not_before_line line (inl below) = omega arith
not_before_line line (inr same) = not_before_itself line.span.left same.1

-- lines that begin at different keys: one that passes the other's test comes before it, and one that fails it comes behind it
pub before_by : (new line : Line) → ¬ ShareLeft line new → up_to (place_of new.index) new.span.left line ≡ true → LineComesBefore line new
before_by new line apart h = ⊎_elim (λ l. inl l) (λ r. inr (r.0, before_other line.span.left new.span.left r.1 (λ e. apart (r.0, e)))) (up_to_true _ _ line h)

pub behind_by : (new line : Line) → up_to (place_of new.index) new.span.left line ≡ false → LineComesBefore new line
behind_by new line h = ⊎_elim (λ l. inl l) (λ r. inr (sym r.0, r.1)) (up_to_false _ _ line h)
