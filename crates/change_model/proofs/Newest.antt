-- A key has one row a time, and so one last row up to a time.
use Rattle.std.proofs.Common.{◌≡◌, ℕ, suc, List, ◌++◌, length, Option, Some, None, ◌≤◌, ◌↔◌, inl, inr, refl, sym, ◌∙◌, ap, subst, arith}
use Rattle.std.proofs.lemmas.Bool.{cases_lt}
use Rattle.std.specs.List.{slice_get}
use Rattle.term_core.specs.declared.term.Term.{Term}
use Rattle.term_core.proofs.Spelling.{spelling_same}
use Rattle.triple_keys.specs.declared.order.Order.{Order}
use Rattle.triple_keys.specs.declared.order.Order.TheVariants as order
use Rattle.triple_keys.proofs.Spelling.{number_told}
use Rattle.row_core.specs.declared.rows.Index.{Index}
use Rattle.row_core.specs.declared.rows.Index.TheVariants.{T2i, I2t, Spo, Pos, Osp}
use Rattle.row_core.specs.declared.rows.Row.{Row}
use Rattle.row_core.specs.declared.rows.Cell.{Cell}
use Rattle.row_core.specs.declared.rows.Cell.TheVariants.{Value}
use Rattle.change_model.specs.declared.history.Committed.{Committed}
use Rattle.change_model.specs.History.{History}
use Rattle.change_model.specs.Lexicon.{HasId}
use Rattle.change_model.specs.IndexRows.{AppearsAt, CellAt, IsStatementRow, IsRow, IsNewest, IsLastRow}
use Rattle.change_model.specs.Laws.{IsWritable}
use Rattle.change_model.proofs.Lexicons.{HasId-grown, HasId-one_term, HasId-one_id, HasId-fits, HasId-IsTerm, AppearsAt-within}
use Rattle.change_model.proofs.Rows.{IsMadeRow, spelling_of, bytes_of, made_of_term, made_of_id, IsRow-append}

pub same_row : (row other : Row) → row.key ≡ other.key → row.time ≡ other.time → row.cell ≡ other.cell → row ≡ other
same_row row other key time cell = λ i. record { key = key i; time = time i; cell = cell i }

-- of the terms of the history and their ids, one key is that of one term and one id
abbrev pub Tells : (Term → ℕ → List ℕ) → History → Type 0
Tells key history =
    (term other : Term) (id second : ℕ) → HasId history (length history) term id → HasId history (length history) other second
    → key term id ≡ key other second → (term ≡ other) × (id ≡ second)

pub Tells-spelling : (history : History) → IsWritable history → Tells spelling_of history
Tells-spelling history writable term other id second one two same =
    let n = length history in
    let e = spelling_same term other (HasId-IsTerm history n term id writable one) (HasId-IsTerm history n other second writable two) same in
    (e, HasId-one_id history n n other id second (subst (λ t. HasId history n t id) e one) two)

pub Tells-bytes : (history : History) → IsWritable history → Tells bytes_of history
Tells-bytes history writable term other id second one two same =
    let n = length history in
    let e = number_told id second (HasId-fits history n term id writable (omega arith) one) (HasId-fits history n other second writable (omega arith) two) same in
    (HasId-one_term history n n term other second (subst (HasId history n term) e one) two, e)

-- a term of a row has its id after all changes
pub appeared : (history : History) (k : ℕ) (term : Term) (id : ℕ) → AppearsAt history k term id → HasId history (length history) term id
appeared history k term id appears = HasId-grown history (suc k) (length history) term id (AppearsAt-within history k term id appears) appears.has

made-one : (key value : Term → ℕ → List ℕ) (history : History) (row other : Row) → Tells key history
    → IsMadeRow key value history row → IsMadeRow key value history other → row.key ≡ other.key → row.time ≡ other.time → row ≡ other
made-one key value history row other tells one two same time =
    let key_is : row.key ≡ key one.term one.id = ap (λ (r : Row). r.key) one.row_is in
    let other_is : other.key ≡ key two.term two.id = ap (λ (r : Row). r.key) two.row_is in
    let first = appeared history one.k one.term one.id one.appears in
    let second = appeared history two.k two.term two.id two.appears in
    let told = tells one.term two.term one.id two.id first second (sym key_is ∙ same ∙ other_is) in
    let cell_is : row.cell ≡ Value (value one.term one.id) = ap (λ (r : Row). r.cell) one.row_is in
    let cell_too : other.cell ≡ Value (value two.term two.id) = ap (λ (r : Row). r.cell) two.row_is in
    let values : value one.term one.id ≡ value two.term two.id = λ i. value (told.0 i) (told.1 i) in
    same_row row other same time (cell_is ∙ ap Value values ∙ sym cell_too)

one_cell : (entry : Option Committed) (cell other : Cell) → CellAt entry cell → CellAt entry other → cell ≡ other
one_cell None cell other one two = absurd one
one_cell (Some committed) cell other one two = one ∙ sym two

statement-one : (order : Order) (history : History) (row other : Row) → IsStatementRow order history row → IsStatementRow order history other
    → row.key ≡ other.key → row.time ≡ other.time → row ≡ other
statement-one order history row other one two same time =
    let first = one.time_is in
    let second = two.time_is in
    let at : two.k ≡ one.k = omega arith in
    same_row row other same time
    (one_cell (slice_get history one.k) row.cell other.cell one.cell_is (subst (λ k. CellAt (slice_get history k) other.cell) at two.cell_is))

-- two rows of one index with one key and one time are the same
pub IsRow-one : (index : Index) (history : History) (row other : Row) → IsWritable history → IsRow index history row → IsRow index history other
    → row.key ≡ other.key → row.time ≡ other.time → row ≡ other
IsRow-one T2i history row other writable one two =
    made-one spelling_of bytes_of history row other (Tells-spelling history writable) ((made_of_term history row).0 one) ((made_of_term history other).0 two)
IsRow-one I2t history row other writable one two =
    made-one bytes_of spelling_of history row other (Tells-bytes history writable) ((made_of_id history row).0 one) ((made_of_id history other).0 two)
IsRow-one Spo history row other writable one two = statement-one order.Spo history row other one two
IsRow-one Pos history row other writable one two = statement-one order.Pos history row other one two
IsRow-one Osp history row other writable one two = statement-one order.Osp history row other one two

-- a key has one newest row up to a time, or none
pub IsNewest-one : (rows : Row → Type 0) (key : List ℕ) (time : ℕ) (found other : Option Row)
    → ((row second : Row) → rows row → rows second → row.key ≡ second.key → row.time ≡ second.time → row ≡ second)
    → IsNewest rows key time found → IsNewest rows key time other → found ≡ other
IsNewest-one rows key time None None one first second = refl
IsNewest-one rows key time None (Some row) one first second = absurd (first row second.0 second.1)
IsNewest-one rows key time (Some row) None one first second = absurd (second row first.0 first.1)
IsNewest-one rows key time (Some row) (Some other) one first second =
    let up = first.2 other second.0 second.1 in
    let down = second.2 row first.0 first.1 in
    ap Some (one row other first.0 second.0 (first.1.key_is ∙ sym second.1.key_is) (omega arith))

pub IsLastRow-one : (index : Index) (history : History) (key : List ℕ) (time : ℕ) (found other : Option Row) → IsWritable history
    → IsLastRow index history key time found → IsLastRow index history key time other → found ≡ other
IsLastRow-one index history key time found other writable =
    IsNewest-one (IsRow index history) key time found other (λ row second one two. IsRow-one index history row second writable one two)

-- a row of the time itself is the newest
pub IsNewest-here : (rows : Row → Type 0) (key : List ℕ) (time : ℕ) (row : Row) → rows row → row.key ≡ key → row.time ≡ time → IsNewest rows key time (Some row)
IsNewest-here rows key time row is key_is time_is = (
  is,
  record { key_is = key_is; at_most = omega arith },
  λ other there at. let most = at.at_most in omega arith,
)

-- where the key has no row of the next time, its newest row stays
pub IsNewest-kept : (rows : Row → Type 0) (key : List ℕ) (time : ℕ) (found : Option Row)
    → ((row : Row) → rows row → row.key ≡ key → row.time ≡ suc time → ⊥) → IsNewest rows key time found → IsNewest rows key (suc time) found
IsNewest-kept rows key time None none before =
    λ row is at. elim (cases_lt time row.time) [
      | inl new ↦ let most = at.at_most in none row is at.key_is (omega arith)
      | inr old ↦ before row is (record { key_is = at.key_is; at_most = old })
    ]
IsNewest-kept rows key time (Some found) none before = (
  before.0,
  let most = before.1.at_most in record { key_is = before.1.key_is; at_most = omega arith },
  λ row is at. elim (cases_lt time row.time) [
    | inl new ↦ let most = at.at_most in absurd (none row is at.key_is (omega arith))
    | inr old ↦ before.2 row is (record { key_is = at.key_is; at_most = old })
  ],
)

-- only the rows up to the time count
pub IsNewest-same : (rows others : Row → Type 0) (key : List ℕ) (time : ℕ) (found : Option Row) → ((row : Row) → row.time ≤ time → (rows row ↔ others row))
    → IsNewest rows key time found → IsNewest others key time found
IsNewest-same rows others key time None same before = λ row is at. before row ((same row at.at_most).1 is) at
IsNewest-same rows others key time (Some found) same before = (
  (same found before.1.at_most).0 before.0,
  before.1,
  λ row is at. before.2 row ((same row at.at_most).1 is) at,
)

-- later changes leave the last row up to a time as it was
pub IsLastRow-append : (index : Index) (history more : History) (key : List ℕ) (time : ℕ) (found : Option Row) → time ≤ length history
    → (IsLastRow index (history ++ more) key time found ↔ IsLastRow index history key time found)
IsLastRow-append index history more key time found within =
    let same = λ (row : Row) (up : row.time ≤ time). let low : row.time ≤ length history = omega arith in IsRow-append index history more row low in (
      IsNewest-same (IsRow index (history ++ more)) (IsRow index history) key time found same,
      IsNewest-same (IsRow index history) (IsRow index (history ++ more)) key time found (λ row up. let both = same row up in (both.1, both.0)),
    )
