-- Ids and terms, as the last rows of two indexes tell them.
use Rattle.std.proofs.Common.{◌≡◌, ℕ, ◌<◌, ◌^◌, List, length, take, drop, Option, Some, None, ◌↔◌, refl, sym, ◌∙◌, ap, subst, arith}
use Rattle.std.specs.Prelude.{IsNone, IfSome, IfOk, MatchOption, Result, Ok, Err}
use Rattle.term_core.specs.declared.term.Term.{Term}
use Rattle.term_core.specs.Term.{IsTerm}
use Rattle.term_core.specs.Spelling.{spelling}
use Rattle.base_core.specs.Numbers.{number_bytes}
use Rattle.row_core.specs.declared.rows.Index.{Index}
use Rattle.row_core.specs.declared.rows.Index.TheVariants.{T2i, I2t}
use Rattle.row_core.specs.declared.rows.Row.{Row}
use Rattle.row_core.specs.declared.rows.Cell.{Cell}
use Rattle.row_core.specs.declared.rows.Cell.TheVariants.{Value, Deleted}
use Rattle.window_core.specs.declared.live.LiveWindow.{LiveWindow}
use Rattle.row_core.specs.Rows.{IsAt, IsLast}
use Rattle.change_model.specs.History.{History}
use Rattle.change_model.specs.IndexRows.{IsLastRow, IsTermRow}
use Rattle.change_model.specs.Entries.{IsIdOf}
use Rattle.change_model.specs.Laws.{IsWritable}
use Rattle.bigfed.specs.Indexed.{IsIndexOf, IsLastValue, IsTermOf, rows_in, upto_of, value_in, cell_value}
use Rattle.change_model.proofs.Lexicons.{HasId-fits, HasId-IsTerm}
use Rattle.change_model.proofs.Naming.{lexicon_law, id_law}
use Rattle.change_model.proofs.Newest.{IsLastRow-one}

-- the last row in a window is the history's
pub last_row : (index : Index) (history : History) (window : LiveWindow) (key : List ℕ) (last : Option Row) → IsIndexOf index history window
    → IsLast (rows_in window) key (upto_of window) last → IsLastRow index history key (length history) last
last_row index history window key None is last = λ row there at. last row ((is.rows row).1 there) (subst (λ time. IsAt key time row) (sym is.upto) at)
last_row index history window key (Some found) is last = (
  (is.rows found).0 last.0,
  subst (λ time. IsAt key time found) is.upto last.1,
  λ row there at. last.2 row ((is.rows row).1 there) (subst (λ time. IsAt key time row) (sym is.upto) at),
)

cell_is : (cell : Cell) (value : List ℕ) → Some value ≡ cell_value cell → cell ≡ Value value
cell_is (Value other) value e = cc
cell_is Deleted value e = cc

-- a value that was found is that of a row
value_row : (last : Option Row) (value : List ℕ) → Some value ≡ value_in last → (row : Row) × (last ≡ Some row) × (row.cell ≡ Value value)
value_row None value e = cc
value_row (Some row) value e = (row, refl, cell_is row.cell value e)

no_cell : (cell : Cell) (value : List ℕ) → None ≡ cell_value cell → cell ≡ Value value → ⊥
no_cell cell value e is = let some : cell_value cell ≡ Some value = ap cell_value is in cc

no_value_row : (last : Option Row) (row : Row) (value : List ℕ) → None ≡ value_in last → last ≡ Some row → row.cell ≡ Value value → ⊥
no_value_row last row value e is cell = no_cell row.cell value (e ∙ ap value_in is) cell

-- a value that was found stands in the last row of the key
found_row : (index : Index) (history : History) (window : LiveWindow) (key value : List ℕ) → IsIndexOf index history window
    → IsLastValue window key (Some value) → (row : Row) × IsLastRow index history key (length history) (Some row) × (row.cell ≡ Value value)
found_row index history window key value is (last, are, e) =
    let (row, same, cell) = value_row last value e in
    (row, subst (IsLastRow index history key (length history)) same (last_row index history window key last is are), cell)

-- where none was found, no last row has a value
no_row : (index : Index) (history : History) (window : LiveWindow) (key : List ℕ) → IsWritable history → IsIndexOf index history window
    → IsLastValue window key None → (row : Row) (value : List ℕ) → IsLastRow index history key (length history) (Some row) → row.cell ≡ Value value → ⊥
no_row index history window key writable is (last, are, e) row value other cell =
    no_value_row last row value e
    (IsLastRow-one index history key (length history) last (Some row) writable (last_row index history window key last is are) other) cell

read_number : (value : List ℕ) (id n : ℕ) → value ≡ number_bytes id → take 8 (drop 0 value) ≡ number_bytes n → value ≡ number_bytes n
read_number value id n is read =
    let eight : take 8 (drop 0 (number_bytes id)) ≡ number_bytes id = refl in
    is ∙ sym eight ∙ ap (λ bytes. take 8 (drop 0 bytes)) (sym is) ∙ read

-- the value of a term's row has eight bytes
id_bytes : (history : History) (row : Row) (value : List ℕ) → IsTermRow history row → row.cell ≡ Value value → (id : ℕ) × (value ≡ number_bytes id)
id_bytes history row value made cell =
    let both : Value (number_bytes made.id) ≡ Value value = sym (ap (λ (r : Row). r.cell) made.row_is) ∙ cell in
    (made.id, cc)

-- the id that was read is the term's
pub id_read : (history : History) (window : LiveWindow) (term : Term) (key value : List ℕ) (read : Option ℕ) → IsWritable history → IsIndexOf T2i history window
    → IsTerm term → key ≡ spelling term → IsLastValue window key (Some value)
    → (IsNone read ↔ (length value < 8)) → IfSome read (λ n. take 8 (drop 0 value) ≡ number_bytes n) → IfSome read (λ n. n < 2 ^ 64) → IsIdOf history term read
id_read history window term key value None writable is kept same found short spelled small =
    let (row, last, cell) = found_row T2i history window key value is found in
    let (id, bytes) = id_bytes history row value last.0 cell in
    let long : length value ≡ 8 = ap length bytes in
    let below : length value < 8 = short.0 refl in
    absurd (omega arith)
id_read history window term key value (Some n) writable is kept same found short spelled small =
    let (row, last, cell) = found_row T2i history window key value is found in
    let (id, bytes) = id_bytes history row value last.0 cell in
    (lexicon_law history (length history) term n writable (omega arith) kept small).1
    (row, subst (λ k. IsLastRow T2i history k (length history) (Some row)) same last, cell ∙ ap Value (read_number value id n bytes spelled))

-- a term without a value has no id
pub no_id : (history : History) (window : LiveWindow) (term : Term) (key : List ℕ) → IsWritable history → IsIndexOf T2i history window
    → IsTerm term → key ≡ spelling term → IsLastValue window key None → IsIdOf history term None
no_id history window term key writable is kept same found = λ id has.
    let small : id < 2 ^ 64 = HasId-fits history (length history) term id writable (omega arith) has in
    let (row, last, cell) = (lexicon_law history (length history) term id writable (omega arith) kept small).0 has in
    no_row T2i history window key writable is found row (number_bytes id)
    (subst (λ k. IsLastRow T2i history k (length history) (Some row)) (sym same) last) cell

-- the term that was read is the id's
pub term_read : (history : History) (window : LiveWindow) (id : ℕ) (key value : List ℕ) (read : Option Term) → IsWritable history → IsIndexOf I2t history window
    → id < 2 ^ 64 → key ≡ number_bytes id → IsLastValue window key (Some value)
    → MatchOption read ((term : Term) → IsTerm term → value ≡ spelling term → ⊥) (λ term. IsTerm term × (value ≡ spelling term)) → IsTermOf history id read
term_read history window id key value None writable is small same found none = λ term has.
    let kept = HasId-IsTerm history (length history) term id writable has in
    let (row, last, cell) = found_row I2t history window key value is found in
    let (other, second, spelled) = (id_law history (length history) term id writable (omega arith) kept small).0 has in
    let one : Some row ≡ Some other = IsLastRow-one I2t history key (length history) (Some row) (Some other) writable last
    (subst (λ k. IsLastRow I2t history k (length history) (Some other)) (sym same) second) in
    let rows : row ≡ other = cc in
    let values : Value value ≡ Value (spelling term) = sym cell ∙ ap (λ (r : Row). r.cell) rows ∙ spelled in
    none term kept (cc)
term_read history window id key value (Some term) writable is small same found told =
    let (row, last, cell) = found_row I2t history window key value is found in
    (id_law history (length history) term id writable (omega arith) told.0 small).1
    (row, subst (λ k. IsLastRow I2t history k (length history) (Some row)) same last, cell ∙ ap Value told.1)

pub term_of_read : {E : Type 0} (history : History) (window : LiveWindow) (id : ℕ) (key value : List ℕ) (result : Result (Option Term) E) → IsWritable history
    → IsIndexOf I2t history window → id < 2 ^ 64 → key ≡ number_bytes id → IsLastValue window key (Some value)
    → IfOk result (λ read. MatchOption read ((term : Term) → IsTerm term → value ≡ spelling term → ⊥) (λ term. IsTerm term × (value ≡ spelling term)))
    → IfOk result (IsTermOf history id)
term_of_read history window id key value (Ok read) writable is small same found told = term_read history window id key value read writable is small same found told
term_of_read history window id key value (Err e) writable is small same found told = tt

-- an id without a value is no term's
pub no_term : (history : History) (window : LiveWindow) (id : ℕ) (key : List ℕ) → IsWritable history → IsIndexOf I2t history window
    → id < 2 ^ 64 → key ≡ number_bytes id → IsLastValue window key None → IsTermOf history id None
no_term history window id key writable is small same found = λ term has.
    let kept = HasId-IsTerm history (length history) term id writable has in
    let (row, last, cell) = (id_law history (length history) term id writable (omega arith) kept small).0 has in
    no_row I2t history window key writable is found row (spelling term)
    (subst (λ k. IsLastRow I2t history k (length history) (Some row)) (sym same) last) cell

-- a value that was found, under the key as it was handed over
pub as_value : (window : LiveWindow) (key : List ℕ) (found : Option (List ℕ)) (value : Option (List ℕ)) → IsLastValue window key found → found ≡ value → IsLastValue window key value
as_value window key found value is same = subst (IsLastValue window key) same is
