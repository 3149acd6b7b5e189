-- What a caller of a window finds.
use Rattle.std.specs.Prelude.{◌≡◌, ℕ, List, Option, None, ◌⊎◌}
use Rattle.base_core.specs.Lists.{Has}
use Rattle.fed_bytes.specs.Keys.{IsUpTo}
use Rattle.row_core.specs.declared.rows.Row.{Row}
use Rattle.row_core.specs.Rows.{IsLast}

-- the key is the first of a row from a key on
pub record IsFirstKey (rows : List Row) (key first : List ℕ) : Type 0 where
  pub stands : (row : Row) × Has rows row × (row.key ≡ first)
  pub from : IsUpTo key first
  pub least : (row : Row) → Has rows row → IsUpTo key row.key → IsUpTo first row.key

-- no row is of a key from this one on, or the answer is the last row of the first such key
abbrev pub IsFirstAt : List Row → List ℕ → ℕ → Option Row → Type 0
IsFirstAt rows key time found =
    (((row : Row) → Has rows row → ¬ IsUpTo key row.key) × (found ≡ None)) ⊎ ((first : List ℕ) × IsFirstKey rows key first × IsLast rows first time found)
