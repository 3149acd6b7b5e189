-- The rows that a history gives: their times, and how one more change adds to them.
use Rattle.std.proofs.Common.{◌≡◌, ℕ, suc, ◌≤◌, ◌<◌, List, [], ◌∷◌, ◌++◌, length, Option, Some, None, ◌⊎◌, inl, inr, ◌↔◌, refl, sym, ap, subst, arith}
use Rattle.std.proofs.lemmas.Bool.{cases_lt}
use Rattle.std.proofs.lemmas.Option.{slice_get_within}
use Rattle.std.specs.List.{slice_get}
use Rattle.term_core.specs.declared.term.Term.{Term}
use Rattle.term_core.specs.declared.statement.Statement.{Statement}
use Rattle.term_core.specs.Spelling.{spelling}
use Rattle.base_core.specs.Numbers.{number_bytes}
use Rattle.triple_keys.specs.declared.key.Ids.{Ids}
use Rattle.triple_keys.specs.declared.order.Order.{Order}
use Rattle.triple_keys.specs.declared.order.Order.TheVariants as order
use Rattle.triple_keys.specs.Keys.{AreIds, key_bytes}
use Rattle.triple_keys.proofs.Spelling.{told_ids}
use Rattle.row_core.specs.declared.rows.Index.{Index}
use Rattle.row_core.specs.declared.rows.Index.TheVariants.{T2i, I2t, Spo, Pos, Osp}
use Rattle.row_core.specs.declared.rows.Row.{Row}
use Rattle.row_core.specs.declared.rows.Cell.TheVariants.{Value}
use Rattle.change_model.specs.declared.history.Committed.{Committed}
use Rattle.change_model.specs.History.{History}
use Rattle.change_model.specs.IndexRows.{AppearsAt, StandsIn, CellAt, IsTermRow, IsIdRow, IsStatementRow, IsRow}
use Rattle.change_model.specs.Laws.{index_of}
use Rattle.change_model.proofs.Members.{slice_get-append, length-one_more}
use Rattle.change_model.proofs.Lexicons.{lexicon_at-append, HasId-append, HaveIds-append, AppearsAt-within}

-- two keys in one order are those of the same ids
pub key_bytes-same : (order : Order) (ids other : Ids) → AreIds ids → AreIds other → key_bytes order ids ≡ key_bytes order other → ids ≡ other
key_bytes-same order ids other small fits same = told_ids order (key_bytes order ids) ids small refl other fits same

-- the rows of an order are those of its index
pub row_of_order : (order : Order) (history : History) (row : Row) → (IsRow (index_of order) history row ↔ IsStatementRow order history row)
row_of_order order.Spo history row = (λ is. is, λ is. is)
row_of_order order.Pos history row = (λ is. is, λ is. is)
row_of_order order.Osp history row = (λ is. is, λ is. is)

-- a row from a term to its id or back, by what its key and its value are
pub record IsMadeRow (key value : Term → ℕ → List ℕ) (history : History) (row : Row) : Type 0 where
  pub k : ℕ
  pub term : Term
  pub id : ℕ
  pub appears : AppearsAt history k term id
  pub row_is : row ≡ record { key = key term id; time = suc k; cell = Value (value term id) }

abbrev pub spelling_of : Term → ℕ → List ℕ
spelling_of term id = spelling term

abbrev pub bytes_of : Term → ℕ → List ℕ
bytes_of term id = number_bytes id

pub made_of_term : (history : History) (row : Row) → (IsTermRow history row ↔ IsMadeRow spelling_of bytes_of history row)
made_of_term history row = (
  λ is. record { k = is.k; term = is.term; id = is.id; appears = is.appears; row_is = is.row_is },
  λ is. record { k = is.k; term = is.term; id = is.id; appears = is.appears; row_is = is.row_is },
)

pub made_of_id : (history : History) (row : Row) → (IsIdRow history row ↔ IsMadeRow bytes_of spelling_of history row)
made_of_id history row = (
  λ is. record { k = is.k; term = is.term; id = is.id; appears = is.appears; row_is = is.row_is },
  λ is. record { k = is.k; term = is.term; id = is.id; appears = is.appears; row_is = is.row_is },
)

-- a statement stands in a change that there is
pub StandsIn-some : (entry : Option Committed) (k : ℕ) (statement : Statement) → StandsIn entry k statement → (committed : Committed) × (entry ≡ Some committed)
StandsIn-some None k statement h = absurd h
StandsIn-some (Some committed) k statement h = (committed, refl)

pub StandsIn-within : (history : History) (k : ℕ) (statement : Statement) → StandsIn (slice_get history k) k statement → k < length history
StandsIn-within history k statement h =
    let there = StandsIn-some (slice_get history k) k statement h in slice_get_within history k there.0 there.1

abbrev pub IsInTime : History → Row → Type 0
IsInTime history row = (0 < row.time) × (row.time ≤ length history)

made-time : (key value : Term → ℕ → List ℕ) (history : History) (row : Row) → IsMadeRow key value history row → IsInTime history row
made-time key value history row is =
    let below = AppearsAt-within history is.k is.term is.id is.appears in
    let time : row.time ≡ suc is.k = ap (λ (r : Row). r.time) is.row_is in (omega arith, omega arith)

statement-time : (order : Order) (history : History) (row : Row) → IsStatementRow order history row → IsInTime history row
statement-time order history row is =
    let below = StandsIn-within history is.k is.statement is.stands in
    let time = is.time_is in (omega arith, omega arith)

-- the time of a row is that of a change
pub IsRow-time : (index : Index) (history : History) (row : Row) → IsRow index history row → (0 < row.time) × (row.time ≤ length history)
IsRow-time T2i history row is = made-time spelling_of bytes_of history row ((made_of_term history row).0 is)
IsRow-time I2t history row is = made-time bytes_of spelling_of history row ((made_of_id history row).0 is)
IsRow-time Spo history row is = statement-time order.Spo history row is
IsRow-time Pos history row is = statement-time order.Pos history row is
IsRow-time Osp history row is = statement-time order.Osp history row is

AppearsAt-append : (history more : History) (k : ℕ) (term : Term) (id : ℕ) → k < length history → (AppearsAt (history ++ more) k term id ↔ AppearsAt history k term id)
AppearsAt-append history more k term id within =
    let ids = HasId-append history more (suc k) term id within in
    let same = lexicon_at-append history more k (omega arith) in (
      λ appears. record { has = ids.0 appears.has; new = subst (λ xs. length xs < id) same appears.new },
      λ appears. record { has = ids.1 appears.has; new = subst (λ xs. length xs < id) (sym same) appears.new },
    )

made-append : (key value : Term → ℕ → List ℕ) (history more : History) (row : Row) → row.time ≤ length history
    → (IsMadeRow key value (history ++ more) row ↔ IsMadeRow key value history row)
made-append key value history more row within =
    let below = λ (k : ℕ) (time : row.time ≡ suc k). let low : k < length history = omega arith in low in (
      λ is. let low = below is.k (ap (λ (r : Row). r.time) is.row_is) in record {
        k = is.k;
        term = is.term;
        id = is.id;
        appears = (AppearsAt-append history more is.k is.term is.id low).0 is.appears;
        row_is = is.row_is;
      },
      λ is. let low = below is.k (ap (λ (r : Row). r.time) is.row_is) in record {
        k = is.k;
        term = is.term;
        id = is.id;
        appears = (AppearsAt-append history more is.k is.term is.id low).1 is.appears;
        row_is = is.row_is;
      },
    )

statement-append : (order : Order) (history more : History) (row : Row) → row.time ≤ length history
    → (IsStatementRow order (history ++ more) row ↔ IsStatementRow order history row)
statement-append order history more row within =
    let below = λ (k : ℕ) (time : row.time ≡ suc k). let low : k < length history = omega arith in low in (
      λ is. let low = below is.k is.time_is in let same = slice_get-append history more is.k low in record {
        k = is.k;
        statement = is.statement;
        ids = is.ids;
        stands = subst (λ entry. StandsIn entry is.k is.statement) same is.stands;
        have = (HaveIds-append history more (suc is.k) is.statement is.ids low).0 is.have;
        cell_is = subst (λ entry. CellAt entry row.cell) same is.cell_is;
        key_is = is.key_is;
        time_is = is.time_is;
      },
      λ is. let low = below is.k is.time_is in let same = sym (slice_get-append history more is.k low) in record {
        k = is.k;
        statement = is.statement;
        ids = is.ids;
        stands = subst (λ entry. StandsIn entry is.k is.statement) same is.stands;
        have = (HaveIds-append history more (suc is.k) is.statement is.ids low).1 is.have;
        cell_is = subst (λ entry. CellAt entry row.cell) same is.cell_is;
        key_is = is.key_is;
        time_is = is.time_is;
      },
    )

by_both : {A B C D : Type 0} → (A ↔ B) → (B ↔ C) → (D ↔ C) → (A ↔ D)
by_both f g h = (λ a. h.1 (g.0 (f.0 a)), λ d. f.1 (g.1 (h.0 d)))

-- later changes leave the rows of earlier times as they were
pub IsRow-append : (index : Index) (history more : History) (row : Row) → row.time ≤ length history → (IsRow index (history ++ more) row ↔ IsRow index history row)
IsRow-append T2i history more row within =
    by_both (made_of_term (history ++ more) row) (made-append spelling_of bytes_of history more row within) (made_of_term history row)
IsRow-append I2t history more row within =
    by_both (made_of_id (history ++ more) row) (made-append bytes_of spelling_of history more row within) (made_of_id history row)
IsRow-append Spo history more row within = statement-append order.Spo history more row within
IsRow-append Pos history more row within = statement-append order.Pos history more row within
IsRow-append Osp history more row within = statement-append order.Osp history more row within

-- one more change adds rows of its time, and leaves the others
pub IsRow-one_more : (index : Index) (history : History) (committed : Committed) (row : Row)
    → (IsRow index (history ++ committed ∷ []) row ↔ (IsRow index history row ⊎ (IsRow index (history ++ committed ∷ []) row × (row.time ≡ suc (length history)))))
IsRow-one_more index history committed row = (
  λ is. let time = (IsRow-time index (history ++ committed ∷ []) row is).1 in
      let long = length-one_more history committed in
      elim (cases_lt (length history) row.time) [
        | inl new ↦ inr (is, omega arith)
        | inr old ↦ inl ((IsRow-append index history (committed ∷ []) row old).0 is)
      ],
  λ h. elim h [ inl old ↦ (IsRow-append index history (committed ∷ []) row (IsRow-time index history row old).1).1 old | inr new ↦ new.0 ],
)
