-- The values that keys have at a time.
use Rattle.std.specs.Prelude.{◌≡◌, ◌↔◌, ℕ, ◌≤◌, List, length, Option, Some, None, IfSome}
use Rattle.std.specs.List.{AllByRecursion}
use Rattle.base_core.specs.Lists.{Has, AreDistinct}
use Rattle.fed_bytes.specs.declared.span.Span.{Span}
use Rattle.fed_bytes.specs.Keys.{IsBeforeEnd, IsIn}
use Rattle.row_core.specs.declared.rows.Row.{Row}
use Rattle.row_core.specs.declared.rows.Cell.{Cell}
use Rattle.row_core.specs.declared.rows.Cell.TheVariants.{Value, Deleted}
use Rattle.row_core.specs.declared.rows.Chunk.{Chunk}
use Rattle.row_core.specs.Rows.{StandInOrder, IsLast}

abbrev pub IsValueCell : Cell → Type 0
IsValueCell (Value value) = Unit {0}
IsValueCell Deleted = ⊥

-- of the rows this one is the newest of its key at or before the time, and it is a value
abbrev pub IsValueAt : List Row → ℕ → Row → Type 0
IsValueAt rows time row = IsLast rows row.key time (Some row) × IsValueCell row.cell

-- the key is in the span and before the next one, if there is one
abbrev pub IsPassed : Span → Option (List ℕ) → List ℕ → Type 0
IsPassed span next key = IsIn span key × IsBeforeEnd key next

-- one of the rows has the key
abbrev pub IsKeyOf : List Row → List ℕ → Type 0
IsKeyOf rows key = (row : Row) × Has rows row × (row.key ≡ key)

-- these are the keys of the rows that are passed, each once
abbrev pub ArePassedOf : List Row → Span → Option (List ℕ) → List (List ℕ) → Type 0
ArePassedOf rows span next keys = AreDistinct keys × ((key : List ℕ) → (Has keys key ↔ (IsKeyOf rows key × IsPassed span next key)))

-- where no key comes next, at most so many were passed; where one does, it is one of the rows', in the span, and so many were
abbrev pub AreMost : List Row → Span → ℕ → Option (List ℕ) → ℕ → Type 0
AreMost rows span most None count = count ≤ most
AreMost rows span most (Some next) count = IsKeyOf rows next × IsIn span next × (count ≡ most)

-- The chunk has, of the first `most` keys in the span, the rows that are values at the time; and the key behind them, if there is one.
pub record AreValuesAt (rows : List Row) (span : Span) (time most : ℕ) (chunk : Chunk) : Type 0 where
  pub in_order : StandInOrder chunk.rows
  pub exactly : (row : Row) → (Has chunk.rows row ↔ (IsValueAt rows time row × IsPassed span chunk.next row.key))
  pub keys : List (List ℕ)
  pub passed : ArePassedOf rows span chunk.next keys
  pub ends : AreMost rows span most chunk.next (length keys)

-- What an answered row is, whatever a device gave: a value, at or before the time, of a key in the span.
pub record IsAskedFor (span : Span) (time : ℕ) (row : Row) : Type 0 where
  pub key : IsIn span row.key
  pub at_most : row.time ≤ time
  pub value : IsValueCell row.cell

-- What answered values are, whatever a device gave: each as it was asked for, and the next key in the span.
pub record AreAskedFor (span : Span) (time : ℕ) (chunk : Chunk) : Type 0 where
  pub rows : AllByRecursion (IsAskedFor span time) chunk.rows
  pub next_in : IfSome chunk.next (IsIn span)
