-- How rows stand in order.
use Rattle.std.proofs.Common.{◌≡◌, ◌<◌, ℕ, List, [], ◌∷◌, ◌++◌, true, refl, sym, ap, ◌∙◌, subst, arith, inl, inr, Ordering}
use Rattle.std.specs.declared.cmp.Ordering.TheVariants.{Less, Equal, Greater}
use Rattle.std.specs.Prelude.{◌⊎◌}
use Rattle.std.specs.Ordering.{is_lt, is_le, nat_cmp, ordering_then}
use Rattle.std.specs.Cmp.{IsTotalOrder}
use Rattle.std.specs.Cmp.Lexicographic.{slice_cmp, nat_list_cmp_total}
use Rattle.std.proofs.lemmas.Cmp.{ranked, tied_itself, then_total, on_total, back_total, nat_cmp_total}
use Rattle.std.proofs.lemmas.Map.Lookups.{exact_bytes}
use Rattle.base_core.specs.Lists.{Has}
use Rattle.fed_bytes.specs.Keys.{IsBefore, IsUpTo}
use Rattle.fed_bytes.proofs.Orders.{no_answer, up_to-itself, before_up_to}
use Rattle.row_core.specs.declared.rows.Row.{Row}
use Rattle.row_core.specs.Rows.{ComesBefore, StandInOrder, row_cmp}
use Rattle.row_core.proofs.Lists.{of_each, each, all_of_both, in_front, behind}

-- two keys that don't differ are one
pub one_key : (a b : List ℕ) → slice_cmp nat_cmp a b ≡ Equal → a ≡ b
one_key a b e = exact_bytes a b e

-- ---- the order as a comparison
pub row_total : IsTotalOrder row_cmp
row_total = then_total (on_total (λ row. row.key) nat_list_cmp_total) (back_total (on_total (λ row. row.time) nat_cmp_total))

below : (m n : ℕ) (r : Ordering) → nat_cmp m n ≡ r → r ≡ Less → m < n
below m n Less is e = ranked m n Less (sym is)
below m n Equal is e = cc
below m n Greater is e = cc

first_by : (one other : Row) (r : Ordering) → slice_cmp nat_cmp one.key other.key ≡ r → ordering_then r (nat_cmp other.time one.time) ≡ Less → ComesBefore one other
first_by one other Less is e = inl (ap is_lt is)
first_by one other Equal is e = inr (one_key one.key other.key is, below other.time one.time _ refl e)
first_by one other Greater is e = cc

pub comes_before : (one other : Row) → row_cmp one other ≡ Less → ComesBefore one other
comes_before one other e = first_by one other (slice_cmp nat_cmp one.key other.key) refl e

less_by : (r o : Ordering) → is_lt r ≡ true → ordering_then r o ≡ Less
less_by Less o h = refl
less_by Equal o h = no_answer h
less_by Greater o h = no_answer h

nat_less : (m n : ℕ) (r : Ordering) → nat_cmp m n ≡ r → m < n → r ≡ Less
nat_less m n Less is h = refl
nat_less m n Equal is h = let same = ranked m n Equal (sym is) in absurd (omega arith)
nat_less m n Greater is h = let higher = ranked m n Greater (sym is) in absurd (omega arith)

pub less_of : (one other : Row) → ComesBefore one other → row_cmp one other ≡ Less
less_of one other (inl before) = less_by (slice_cmp nat_cmp one.key other.key) _ before
less_of one other (inr (same, later)) =
    ap (λ r. ordering_then r (nat_cmp other.time one.time)) (ap (slice_cmp nat_cmp one.key) (sym same) ∙ tied_itself nat_list_cmp_total one.key)
    ∙ nat_less other.time one.time _ refl later

same_time : (m n : ℕ) (r : Ordering) → nat_cmp m n ≡ r → r ≡ Equal → m ≡ n
same_time m n Less is e = cc
same_time m n Equal is e = ranked m n Equal (sym is)
same_time m n Greater is e = cc

tied_by : (row other : Row) (r : Ordering) → slice_cmp nat_cmp row.key other.key ≡ r → ordering_then r (nat_cmp other.time row.time) ≡ Equal → (row.key ≡ other.key) × (row.time ≡ other.time)
tied_by row other Less is e = cc
tied_by row other Equal is e = (one_key row.key other.key is, sym (same_time other.time row.time _ refl e))
tied_by row other Greater is e = cc

-- rows of one place
pub tied : (row other : Row) → row_cmp row other ≡ Equal → (row.key ≡ other.key) × (row.time ≡ other.time)
tied row other e = tied_by row other (slice_cmp nat_cmp row.key other.key) refl e

-- ---- keys
lt_is_le : (r : Ordering) → is_lt r ≡ true → is_le r ≡ true
lt_is_le Less e = refl
lt_is_le Equal e = no_answer e
lt_is_le Greater e = no_answer e

pub before_is_up_to : (a b : List ℕ) → IsBefore a b → IsUpTo a b
before_is_up_to a b h = lt_is_le (slice_cmp nat_cmp a b) h

pub not_before_itself : (a : List ℕ) → IsBefore a a → ⊥
not_before_itself a h = no_answer (sym (ap is_lt (tied_itself nat_list_cmp_total a)) ∙ h)

-- a key that stands up to another stands before it or is it
up_to_by : (a b : List ℕ) (r : Ordering) → slice_cmp nat_cmp a b ≡ r → is_le r ≡ true → IsBefore a b ⊎ (a ≡ b)
up_to_by a b Less is h = inl (ap is_lt is)
up_to_by a b Equal is h = inr (one_key a b is)
up_to_by a b Greater is h = no_answer h

pub up_to_is : (a b : List ℕ) → IsUpTo a b → IsBefore a b ⊎ (a ≡ b)
up_to_is a b h = up_to_by a b (slice_cmp nat_cmp a b) refl h

-- the key of a row stands up to those of the rows behind it
pub up_to_later : (one other : Row) → ComesBefore one other → IsUpTo one.key other.key
up_to_later one other (inl before) = before_is_up_to one.key other.key before
up_to_later one other (inr (same, later)) = subst (IsUpTo one.key) same (up_to-itself one.key)

-- the key of the first of rows in order stands up to each of theirs
pub up_to_any_later : (first row : Row) (rows : List Row) → StandInOrder (first ∷ rows) → Has (first ∷ rows) row → IsUpTo first.key row.key
up_to_any_later first row rows order (inl e) = subst (λ r. IsUpTo first.key r.key) e (up_to-itself first.key)
up_to_any_later first row rows order (inr there) = up_to_later first row (of_each (ComesBefore first) rows order.0 row there)

-- the order is a chain
pub comes_before-chain : (a b c : Row) → ComesBefore a b → ComesBefore b c → ComesBefore a c
comes_before-chain a b c (inl p) q = inl (before_up_to a.key b.key c.key p (up_to_later b c q))
comes_before-chain a b c (inr (same, later)) (inl q) = inl (subst (λ key. IsBefore key c.key) (sym same) q)
comes_before-chain a b c (inr (same, later)) (inr (again, last)) = inr (same ∙ again, omega arith)

-- no row comes before itself
pub not_before_own : (a : Row) → ComesBefore a a → ⊥
not_before_own a (inl p) = not_before_itself a.key p
not_before_own a (inr (same, later)) = absurd (omega arith)

-- rows of one place don't come before each other
pub not_before_tied : (one other : Row) → ComesBefore one other → one.key ≡ other.key → one.time ≡ other.time → ⊥
not_before_tied one other (inl p) same at = not_before_itself one.key (subst (IsBefore one.key) (sym same) p)
not_before_tied one other (inr (again, later)) same at = absurd (omega arith)

-- ---- parts of rows in order
pub front_in_order : (rows rest : List Row) → StandInOrder (rows ++ rest) → StandInOrder rows
front_in_order [] rest h = tt
front_in_order (row ∷ rows) rest h =
    (each (ComesBefore row) rows (λ later there. of_each (ComesBefore row) (rows ++ rest) h.0 later (in_front rows rest later there)), front_in_order rows rest h.1)

pub back_in_order : (rows rest : List Row) → StandInOrder (rows ++ rest) → StandInOrder rest
back_in_order [] rest h = h
back_in_order (row ∷ rows) rest h = back_in_order rows rest h.1

-- a row of the front comes before each row behind it
pub front_before : (rows rest : List Row) → StandInOrder (rows ++ rest) → (one other : Row) → Has rows one → Has rest other → ComesBefore one other
front_before [] rest h one other there later = absurd there
front_before (row ∷ rows) rest h one other (inl e) later =
    subst (λ first. ComesBefore first other) e (of_each (ComesBefore row) (rows ++ rest) h.0 other (behind rows rest other later))
front_before (row ∷ rows) rest h one other (inr there) later = front_before rows rest h.1 one other there later

-- two lists in order, one before the other
pub joined_in_order : (rows rest : List Row) → StandInOrder rows → StandInOrder rest → ((one other : Row) → Has rows one → Has rest other → ComesBefore one other) → StandInOrder (rows ++ rest)
joined_in_order [] rest first second before = second
joined_in_order (row ∷ rows) rest first second before = (
  all_of_both (ComesBefore row) rows rest first.0 (each (ComesBefore row) rest (λ other there. before row other (inl refl) there)),
  joined_in_order rows rest first.1 second (λ one other there later. before one other (inr there) later),
)

-- the first of rows in order comes before each other
pub first_or_later : (first row : Row) (rest : List Row) → StandInOrder (first ∷ rest) → Has (first ∷ rest) row → (first ≡ row) ⊎ ComesBefore first row
first_or_later first row rest order (inl e) = inl e
first_or_later first row rest order (inr there) = inr (of_each (ComesBefore first) rest order.0 row there)

compared_by : (first one other : Row) (rest : List Row) → StandInOrder (first ∷ rest) → Has (first ∷ rest) one → Has (first ∷ rest) other
    → (Has rest one → Has rest other → (one ≡ other) ⊎ (ComesBefore one other ⊎ ComesBefore other one)) → (one ≡ other) ⊎ (ComesBefore one other ⊎ ComesBefore other one)
compared_by first one other rest order (inl e) (inl d) further = inl (sym e ∙ d)
compared_by first one other rest order (inl e) (inr there) further = inr (inl (subst (λ r. ComesBefore r other) e (of_each (ComesBefore first) rest order.0 other there)))
compared_by first one other rest order (inr there) (inl d) further = inr (inr (subst (λ r. ComesBefore r one) d (of_each (ComesBefore first) rest order.0 one there)))
compared_by first one other rest order (inr there) (inr again) further = further there again

-- of two rows of a list in order one comes before the other, or they are one
pub compared : (rows : List Row) → StandInOrder rows → (one other : Row) → Has rows one → Has rows other → (one ≡ other) ⊎ (ComesBefore one other ⊎ ComesBefore other one)
compared [] order one other there again = absurd there
compared (first ∷ rest) order one other there again = compared_by first one other rest order there again (λ p q. compared rest order.1 one other p q)
