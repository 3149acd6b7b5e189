-- Private: which rows of a chunk are values that were asked for.
use Rattle.std.specs.Prelude.{◌≡◌, ℕ, List, Bool, true, false, ◌&&◌, nat_eq, Option, Some, None, ◌⊎◌}
use Rattle.std.specs.Ordering.{is_lt, is_le, nat_cmp}
use Rattle.std.specs.Cmp.Lexicographic.{pointwise, slice_cmp}
use Rattle.std.specs.List.{filter, dedup}
use Rattle.fed_bytes.specs.declared.span.Span.{Span}
use Rattle.fed_bytes.specs.Keys.{IsIn}
use Rattle.row_core.specs.declared.rows.Row.{Row}
use Rattle.row_core.specs.declared.rows.Cell.{Cell}
use Rattle.row_core.specs.declared.rows.Cell.TheVariants.{Value, Deleted}

abbrev pub is_before_end : List ℕ → Option (List ℕ) → Bool
is_before_end key None = true
is_before_end key (Some right) = is_lt (slice_cmp nat_cmp key right)

abbrev pub is_in : Span → List ℕ → Bool
is_in span key = is_le (slice_cmp nat_cmp span.left key) && is_before_end key span.right

-- the row is of a key in the span, at or before the time
abbrev pub is_asked_at : Span → ℕ → Row → Bool
is_asked_at span time row = is_le (nat_cmp row.time time) && is_in span row.key

abbrev pub has_one_key : Row → Row → Bool
has_one_key row before = pointwise nat_eq row.key before.key

abbrev pub is_value_cell : Cell → Bool
is_value_cell (Value value) = true
is_value_cell Deleted = false

abbrev pub is_value_row : Row → Bool
is_value_row row = is_value_cell row.cell

-- of rows in order the newest of each key that was asked for, where it is a value
abbrev pub values_of : Span → ℕ → List Row → List Row
values_of span time rows = filter is_value_row (dedup has_one_key (filter (is_asked_at span time) rows))

-- the key, if it is in the span
abbrev pub IsKeyIn : Span → Option (List ℕ) → Option (List ℕ) → Type 0
IsKeyIn span None found = found ≡ None
IsKeyIn span (Some key) found = (IsIn span key × (found ≡ Some key)) ⊎ ((¬ IsIn span key) × (found ≡ None))
