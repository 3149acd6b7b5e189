-- What the rows of the five indexes say of the history that gave them.
use Rattle.std.specs.Prelude.{◌≡◌, ◌↔◌, ℕ, ◌<◌, ◌≤◌, ◌^◌, List, ◌++◌, length, Option, Some, None}
use Rattle.std.specs.List.{AllByRecursion}
use Rattle.term_core.specs.declared.term.Term.{Term}
use Rattle.term_core.specs.declared.statement.Statement.{Statement}
use Rattle.term_core.specs.Spelling.{spelling}
use Rattle.term_core.specs.Term.{IsTerm, IsStatement}
use Rattle.base_core.specs.Numbers.{number_bytes}
use Rattle.triple_keys.specs.declared.key.Ids.{Ids}
use Rattle.triple_keys.specs.declared.order.Order.{Order}
use Rattle.triple_keys.specs.declared.order.Order.TheVariants as order
use Rattle.triple_keys.specs.Keys.{key_bytes}
use Rattle.row_core.specs.declared.rows.Index.{Index}
use Rattle.row_core.specs.declared.rows.Index.TheVariants.{T2i, I2t, Spo, Pos, Osp}
use Rattle.row_core.specs.declared.rows.Row.{Row}
use Rattle.row_core.specs.declared.rows.Cell.TheVariants.{Value}
use Rattle.change_model.specs.History.{History, graph_at}
use Rattle.change_model.specs.Lexicon.{lexicon_at, HasId, HaveIds}
use Rattle.change_model.specs.IndexRows.{IsLastRow}

-- A history that a store may have: its statements are triples whose parts keep their rules, its times fit 64 bits, and
-- so do the ids of its terms.
pub record IsWritable (history : History) : Type 0 where
  pub statements : AllByRecursion (λ committed. AllByRecursion IsStatement committed.change.statements) history
  pub times : length history < 2 ^ 64
  pub ids : length (lexicon_at history (length history)) < 2 ^ 64

abbrev pub index_of : Order → Index
index_of order.Spo = Spo
index_of order.Pos = Pos
index_of order.Osp = Osp

-- there is a row, and it is a value
abbrev pub IsValue : Option Row → Type 0
IsValue None = ⊥
IsValue (Some row) = (value : List ℕ) × (row.cell ≡ Value value)

-- the statement's terms have ids, and the last row of their key up to the time is a value
pub record IsShown (order : Order) (history : History) (time : ℕ) (statement : Statement) : Type 0 where
  pub ids : Ids
  pub have : HaveIds history (length history) statement ids
  pub last : Option Row
  pub last_is : IsLastRow (index_of order) history (key_bytes order ids) time last
  pub value : IsValue last

-- A triple is in the graph at a time exactly where its terms have ids and its last row up to that time is a value, in
-- each of the three orders.
abbrev pub GraphLaw : Type 0
GraphLaw =
    (history : History) (order : Order) (time : ℕ) (statement : Statement)
    → IsWritable history → time ≤ length history
    → (graph_at history time statement ↔ IsShown order history time statement)

-- the last row of the term's spelling up to the time has this id as its value
abbrev pub IsNamed : History → ℕ → Term → ℕ → Type 0
IsNamed history time term id = (row : Row) × IsLastRow T2i history (spelling term) time (Some row) × (row.cell ≡ Value (number_bytes id))

-- A term's id after the first so many changes is the value of its last row up to that time in the index of terms.
abbrev pub LexiconLaw : Type 0
LexiconLaw =
    (history : History) (time : ℕ) (term : Term) (id : ℕ)
    → IsWritable history → time ≤ length history → IsTerm term → id < 2 ^ 64
    → (HasId history time term id ↔ IsNamed history time term id)

-- the last row of the id's bytes up to the time has this term's spelling as its value
abbrev pub IsSpelled : History → ℕ → Term → ℕ → Type 0
IsSpelled history time term id = (row : Row) × IsLastRow I2t history (number_bytes id) time (Some row) × (row.cell ≡ Value (spelling term))

-- The term of an id after the first so many changes is spelled by the value of its last row up to that time in the index of ids.
abbrev pub IdLaw : Type 0
IdLaw =
    (history : History) (time : ℕ) (term : Term) (id : ℕ)
    → IsWritable history → time ≤ length history → IsTerm term → id < 2 ^ 64
    → (HasId history time term id ↔ IsSpelled history time term id)

-- Later changes leave the last row of a key up to a time as it was.
abbrev pub LongerLastRowLaw : Type 0
LongerLastRowLaw =
    (index : Index) (history more : History) (key : List ℕ) (time : ℕ) (found : Option Row)
    → time ≤ length history → (IsLastRow index (history ++ more) key time found ↔ IsLastRow index history key time found)

-- The beginning of a history that a store may have is one too.
abbrev pub WritableBeginningLaw : Type 0
WritableBeginningLaw = (history more : History) → IsWritable (history ++ more) → IsWritable history
