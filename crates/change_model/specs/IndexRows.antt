-- The rows that a history gives to the five indexes, and the last row of a key.
use Rattle.std.specs.Prelude.{◌≡◌, ℕ, suc, ◌<◌, ◌≤◌, List, [], map, length, Option, Some, None}
use Rattle.std.specs.List.{slice_get}
use Rattle.term_core.specs.declared.term.Term.{Term}
use Rattle.term_core.specs.declared.statement.Statement.{Statement}
use Rattle.base_core.specs.Lists.{Has}
use Rattle.term_core.specs.Spelling.{spelling}
use Rattle.base_core.specs.Numbers.{number_bytes}
use Rattle.triple_keys.specs.declared.key.Ids.{Ids}
use Rattle.triple_keys.specs.declared.order.Order.{Order}
use Rattle.triple_keys.specs.declared.order.Order.TheVariants as order
use Rattle.triple_keys.specs.Keys.{key_bytes}
use Rattle.row_core.specs.declared.rows.Index.{Index}
use Rattle.row_core.specs.declared.rows.Index.TheVariants.{T2i, I2t, Spo, Pos, Osp}
use Rattle.row_core.specs.declared.rows.Row.{Row}
use Rattle.row_core.specs.declared.rows.Cell.{Cell}
use Rattle.row_core.specs.declared.rows.Cell.TheVariants.{Value, Deleted}
use Rattle.row_core.specs.Rows.{IsAt}
use Rattle.change_model.specs.declared.history.Kind.{Kind}
use Rattle.change_model.specs.declared.history.Kind.TheVariants.{Add, Remove}
use Rattle.change_model.specs.declared.history.Committed.{Committed}
use Rattle.change_model.specs.History.{History, bound_at}
use Rattle.change_model.specs.Lexicon.{lexicon_at, HasId, HaveIds}

-- the term first appears in the change after the first k, and has this id from then on
pub record AppearsAt (history : History) (k : ℕ) (term : Term) (id : ℕ) : Type 0 where
  pub has : HasId history (suc k) term id
  pub new : length (lexicon_at history k) < id

-- the statement, bound, stands in the change after the first k
abbrev pub StandsIn : Option Committed → ℕ → Statement → Type 0
StandsIn None k statement = ⊥
StandsIn (Some committed) k statement = Has (map (bound_at (suc k)) committed.change.statements) statement

-- an Add gives a value without bytes, a Remove marks the key as deleted
abbrev pub cell_of : Kind → Cell
cell_of Add = Value []
cell_of Remove = Deleted

abbrev pub CellAt : Option Committed → Cell → Type 0
CellAt None cell = ⊥
CellAt (Some committed) cell = cell ≡ cell_of committed.change.kind

-- from the spelling of a term to its id, at the time of its first appearance
pub record IsTermRow (history : History) (row : Row) : Type 0 where
  pub k : ℕ
  pub term : Term
  pub id : ℕ
  pub appears : AppearsAt history k term id
  pub row_is : row ≡ record { key = spelling term; time = suc k; cell = Value (number_bytes id) }

-- from the id of a term to its spelling, at the same time
pub record IsIdRow (history : History) (row : Row) : Type 0 where
  pub k : ℕ
  pub term : Term
  pub id : ℕ
  pub appears : AppearsAt history k term id
  pub row_is : row ≡ record { key = number_bytes id; time = suc k; cell = Value (spelling term) }

-- A statement of a change, by the ids of its terms in an order, whether or not the graph has it. A Remove gives no row
-- for a statement whose terms have no ids.
pub record IsStatementRow (order : Order) (history : History) (row : Row) : Type 0 where
  pub k : ℕ
  pub statement : Statement
  pub ids : Ids
  pub stands : StandsIn (slice_get history k) k statement
  pub have : HaveIds history (suc k) statement ids
  pub cell_is : CellAt (slice_get history k) row.cell
  pub key_is : row.key ≡ key_bytes order ids
  pub time_is : row.time ≡ suc k

-- the history gives the row to the index
abbrev pub IsRow : Index → History → Row → Type 0
IsRow T2i history row = IsTermRow history row
IsRow I2t history row = IsIdRow history row
IsRow Spo history row = IsStatementRow order.Spo history row
IsRow Pos history row = IsStatementRow order.Pos history row
IsRow Osp history row = IsStatementRow order.Osp history row

-- of the rows of a set, the newest one of the key at or before the time; none exactly where there is no such row
abbrev pub IsNewest : (Row → Type 0) → List ℕ → ℕ → Option Row → Type 0
IsNewest rows key time None = (row : Row) → rows row → ¬ IsAt key time row
IsNewest rows key time (Some found) = rows found × IsAt key time found × ((row : Row) → rows row → IsAt key time row → row.time ≤ found.time)

-- the last row of a key up to a time
abbrev pub IsLastRow : Index → History → List ℕ → ℕ → Option Row → Type 0
IsLastRow index history key time found = IsNewest (IsRow index history) key time found
