-- Private: what the five indexes hold, and what is read from them.
use Rattle.std.specs.Prelude.{◌≡◌, ◌↔◌, ℕ, ◌≤◌, List, [], length, Option, Some, None}
use Rattle.term_core.specs.declared.term.Term.{Term}
use Rattle.base_core.specs.Lists.{Has}
use Rattle.fed_bytes.specs.declared.span.Span.{Span}
use Rattle.fed_bytes.specs.Keys.{IsIn}
use Rattle.triple_keys.specs.declared.key.Ids.{Ids}
use Rattle.triple_keys.specs.declared.order.Order.{Order}
use Rattle.triple_keys.specs.declared.order.Order.TheVariants as order
use Rattle.triple_keys.specs.Keys.{AreIds, key_bytes}
use Rattle.row_core.specs.declared.rows.Index.{Index}
use Rattle.row_core.specs.declared.rows.Index.TheVariants.{T2i, I2t, Spo, Pos, Osp}
use Rattle.row_core.specs.declared.rows.Row.{Row}
use Rattle.row_core.specs.declared.rows.Cell.{Cell}
use Rattle.row_core.specs.declared.rows.Cell.TheVariants.{Value, Deleted}
use Rattle.window_core.specs.declared.live.LiveWindow.{LiveWindow}
use Rattle.window_core.specs.contracts.live.LiveWindowWindow.TheImpl as live_window
use Rattle.row_core.specs.Rows.{IsLast}
use Rattle.change_model.specs.History.{History}
use Rattle.change_model.specs.Lexicon.{lexicon_at, HasId}
use Rattle.change_model.specs.IndexRows.{IsRow}
use Rattle.change_model.specs.Laws.{IsWritable, IsValue}
use Rattle.bigfed.specs.declared.indexes.Indexes.{Indexes}

abbrev pub rows_in : LiveWindow → List Row
rows_in window = (live_window.ghosts).rows window

abbrev pub upto_of : LiveWindow → ℕ
upto_of window = (live_window.ghosts).upto window

abbrev pub span_of : LiveWindow → Span
span_of window = (live_window.ghosts).span window

-- the window holds all rows that the history gives to the index
pub record IsIndexOf (index : Index) (history : History) (window : LiveWindow) : Type 0 where
  pub rows : (row : Row) → (Has (rows_in window) row ↔ IsRow index history row)
  pub upto : upto_of window ≡ length history
  pub left : (span_of window).left ≡ []
  pub right : (span_of window).right ≡ None

-- the five windows are the five indexes of the history, and it has so many ids
pub record AreIndexesOf (history : History) (indexes : Indexes) : Type 0 where
  pub writable : IsWritable history
  pub t2i : IsIndexOf T2i history indexes.t2i
  pub i2t : IsIndexOf I2t history indexes.i2t
  pub spo : IsIndexOf Spo history indexes.spo
  pub pos : IsIndexOf Pos history indexes.pos
  pub osp : IsIndexOf Osp history indexes.osp
  pub terms : indexes.terms ≡ length (lexicon_at history (length history))

-- the index of statements by an order
abbrev pub window_by : Indexes → Order → LiveWindow
window_by indexes order.Spo = indexes.spo
window_by indexes order.Pos = indexes.pos
window_by indexes order.Osp = indexes.osp

abbrev pub cell_value : Cell → Option (List ℕ)
cell_value (Value value) = Some value
cell_value Deleted = None

abbrev pub value_in : Option Row → Option (List ℕ)
value_in None = None
value_in (Some row) = cell_value row.cell

-- the value of the key's last row, if it is one
abbrev pub IsLastValue : LiveWindow → List ℕ → Option (List ℕ) → Type 0
IsLastValue window key found = (last : Option Row) × IsLast (rows_in window) key (upto_of window) last × (found ≡ value_in last)

-- the term of the id, and none exactly where no term has it
abbrev pub IsTermOf : History → ℕ → Option Term → Type 0
IsTermOf history id None = (term : Term) → HasId history (length history) term id → ⊥
IsTermOf history id (Some term) = HasId history (length history) term id

-- the newest row of the key is a value
pub record HasValue (rows : List Row) (key : List ℕ) : Type 0 where
  pub row : Row
  pub stands : Has rows row
  pub key_is : row.key ≡ key
  pub newest : (other : Row) → Has rows other → other.key ≡ key → other.time ≤ row.time
  pub value : IsValue (Some row)

-- the key of the ids is in the span and has a value
pub record IsShownIn (rows : List Row) (order : Order) (span : Span) (ids : Ids) : Type 0 where
  pub ids_are : AreIds ids
  pub within : IsIn span (key_bytes order ids)
  pub value : HasValue rows (key_bytes order ids)
