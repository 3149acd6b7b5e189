-- Private: rows in flat buffers.
use Rattle.std.specs.Prelude.{ℕ, ◌+◌, ◌≤◌, List, [], length, map, get_or, slice_range, Option, Some, None}
use Rattle.row_core.specs.declared.rows.Row.{Row}
use Rattle.row_core.specs.declared.rows.Cell.{Cell}
use Rattle.row_core.specs.declared.rows.Cell.TheVariants.{Value, Deleted}
use Rattle.window_core.specs.declared.packed.Spot.{Spot}

abbrev pub row_with : List ℕ → ℕ → Cell → Row
row_with key time cell = record { key = key; time = time; cell = cell }

-- the row at an index
abbrev pub row_at : List Row → ℕ → Row
row_at rows index = get_or rows index (row_with [] 0 Deleted)

abbrev pub value_length : Option ℕ → ℕ
value_length None = 0
value_length (Some len) = len

abbrev pub cell_in : List ℕ → ℕ → Option ℕ → Cell
cell_in bytes begins None = Deleted
cell_in bytes begins (Some len) = Value (slice_range bytes begins (begins + len))

-- the row whose key stands at a spot, with its value behind it
abbrev pub row_in : List ℕ → Spot → Row
row_in bytes spot = row_with (slice_range bytes spot.begins (spot.begins + spot.key_len)) spot.time (cell_in bytes (spot.begins + spot.key_len) spot.value_len)

abbrev pub rows_in : List ℕ → List Spot → List Row
rows_in bytes spots = map (row_in bytes) spots

-- the bytes of the spot's row stand in the buffer
abbrev pub IsStored : List ℕ → Spot → Type 0
IsStored bytes spot = spot.begins + spot.key_len + value_length spot.value_len ≤ length bytes
