-- Rows in order, parted at an end.
use Rattle.std.specs.Prelude.{ℕ, ◌≤◌, List, length, take, drop, Option, Some, None}
use Rattle.std.specs.List.{AllByRecursion}
use Rattle.fed_bytes.specs.Keys.{IsUpTo, IsBeforeEnd}
use Rattle.row_core.specs.declared.rows.Row.{Row}

-- the row stands at the end or behind it
abbrev pub IsPast : Option (List ℕ) → Row → Type 0
IsPast None row = ⊥
IsPast (Some end) row = IsUpTo end row.key

-- so many rows stand before the end, and the others don't
pub record ArePartedAt (rows : List Row) (end : Option (List ℕ)) (count : ℕ) : Type 0 where
  pub within : count ≤ length rows
  pub before : AllByRecursion (λ row. IsBeforeEnd row.key end) (take count rows)
  pub behind : AllByRecursion (IsPast end) (drop count rows)
