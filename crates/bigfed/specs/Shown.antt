-- Private: how the ids of a span are found, chunk by chunk.
use Rattle.std.specs.Prelude.{◌≡◌, ℕ, Bool, List, Option, Some, None, nat_eq, ◌⊎◌}
use Rattle.std.specs.List.{dedup}
use Rattle.std.specs.Cmp.Lexicographic.{pointwise}
use Rattle.fed_bytes.specs.declared.span.Span.{Span}
use Rattle.fed_bytes.specs.Keys.{IsIn}
use Rattle.triple_keys.specs.declared.key.Ids.{Ids}
use Rattle.triple_keys.specs.declared.order.Order.{Order}
use Rattle.triple_keys.specs.Keys.{AreIds, key_bytes}
use Rattle.row_core.specs.declared.rows.Row.{Row}
use Rattle.change_model.specs.Laws.{IsValue}

-- the key, if there is one and it is in the span
abbrev pub SpanGoesOn : Span → Option (List ℕ) → Option (List ℕ) → Type 0
SpanGoesOn span None next = next ≡ None
SpanGoesOn span (Some key) next = (IsIn span key × (next ≡ Some key)) ⊎ ((IsIn span key → ⊥) × (next ≡ None))

-- the row is a value in the span, and these are the ids of its key
pub record IsKept (order : Order) (span : Span) (row : Row) (ids : Ids) : Type 0 where
  pub ids_are : AreIds ids
  pub within : IsIn span row.key
  pub key_is : row.key ≡ key_bytes order ids
  pub value : IsValue (Some row)

abbrev pub same_key : Row → Row → Bool
same_key row other = pointwise nat_eq row.key other.key

-- of rows that stand next to each other with one key, the first
abbrev pub firsts : List Row → List Row
firsts rows = dedup same_key rows
