-- Windows that stand for a history: what is answered from their rows is what the history says.
use Rattle.std.specs.Prelude.{◌≡◌, ℕ, ◌<◌, ◌≤◌, min, List, length, Option, Some, None}
use Rattle.base_core.specs.Lists.{Has}
use Rattle.fed_bytes.specs.declared.span.Span.{Span}
use Rattle.fed_bytes.specs.Keys.{IsIn}
use Rattle.row_core.specs.declared.rows.Index.{Index}
use Rattle.row_core.specs.declared.rows.Row.{Row}
use Rattle.row_core.specs.declared.rows.Cell.TheVariants.{Deleted}
use Rattle.row_core.specs.Rows.{IsLast, IsWindow}
use Rattle.change_model.specs.History.{History}
use Rattle.change_model.specs.IndexRows.{IsRow, IsNewest}

-- what is known of a window of any kind: its bounds and its rows
pub record WindowData : Type 0 where
  pub span : Span
  pub from : ℕ
  pub upto : ℕ
  pub floor : ℕ
  pub rows : List Row

-- the history gives the row to the index, at a time above this one
abbrev pub IsRowAbove : Index → History → ℕ → Row → Type 0
IsRowAbove index history above row = IsRow index history row × (above < row.time)

-- the last row of a key above one time and up to another
abbrev pub IsLastAbove : Index → History → List ℕ → ℕ → ℕ → Option Row → Type 0
IsLastAbove index history key above time found = IsNewest (IsRowAbove index history above) key time found

-- the row deletes its key at or below the floor, and the rows are those from the beginning
pub record MayBeDropped (from floor : ℕ) (row : Row) : Type 0 where
  pub from_is : from ≡ 0
  pub deleted : row.cell ≡ Deleted
  pub low : row.time ≤ floor

-- what may be found for the last row: the row; and none where there is none, or where it may be dropped
abbrev pub MayBeFound : ℕ → ℕ → Option Row → Option Row → Type 0
MayBeFound from floor last (Some found) = last ≡ Some found
MayBeFound from floor None None = Unit {0}
MayBeFound from floor (Some last) None = MayBeDropped from floor last

-- what is found answers for the history's last row of the key above `from` and up to the time
pub record AnswersFor (index : Index) (history : History) (key : List ℕ) (from time floor : ℕ) (found : Option Row) : Type 0 where
  pub last : Option Row
  pub last_is : IsLastAbove index history key from time last
  pub found_is : MayBeFound from floor last found

-- The window's rows are rows of the history. From the floor on the newest of a key answers for the history's last between the window's times.
pub record WindowStandsFor (index : Index) (history : History) (window : WindowData) : Type 0 where
  pub window_is : IsWindow window.span window.from window.upto window.rows
  pub known : window.upto ≤ length history
  pub given : (row : Row) → Has window.rows row → IsRow index history row
  pub answers :
      (key : List ℕ) (time : ℕ) (found : Option Row) → IsIn window.span key → window.floor ≤ time → IsLast window.rows key time found
      → AnswersFor index history key window.from (min time window.upto) window.floor found
