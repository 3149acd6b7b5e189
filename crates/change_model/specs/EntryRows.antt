-- Private: the rows of one change, and how they stand in an entry.
use Rattle.std.specs.Prelude.{◌↔◌, ℕ, List, map}
use Rattle.std.specs.declared.cmp.Ordering.{Ordering}
use Rattle.std.specs.Ordering.{nat_cmp}
use Rattle.std.specs.Cmp.Lexicographic.{slice_cmp}
use Rattle.base_core.specs.Lists.{Has, AreDistinct}
use Rattle.base_core.specs.Numbers.{number_bytes}
use Rattle.triple_keys.specs.declared.key.Ids.{Ids}
use Rattle.triple_keys.specs.declared.order.Order.{Order}
use Rattle.triple_keys.specs.Keys.{key_bytes}
use Rattle.row_core.specs.declared.rows.Row.{Row}
use Rattle.row_core.specs.declared.rows.Cell.TheVariants.{Value}
use Rattle.row_core.specs.Rows.{StandInOrder}
use Rattle.change_model.specs.declared.history.Kind.{Kind}
use Rattle.change_model.specs.declared.numbering.NewTerm.{NewTerm}
use Rattle.change_model.specs.IndexRows.{cell_of}

-- from the spelling of a term to its id
abbrev pub term_row : ℕ → NewTerm → Row
term_row time term = record { key = term.key; time = time; cell = Value (number_bytes term.id) }

-- from the id of a term to its spelling
abbrev pub id_row : ℕ → NewTerm → Row
id_row time term = record { key = number_bytes term.id; time = time; cell = Value term.key }

abbrev pub statement_row : Order → Kind → ℕ → Ids → Row
statement_row order kind time ids = record { key = key_bytes order ids; time = time; cell = cell_of kind }

-- no two rows have the same key
abbrev pub HaveOwnKeys : List Row → Type 0
HaveOwnKeys rows = AreDistinct (map (λ row. row.key) rows)

-- the ids by their keys in the order
abbrev pub key_cmp : Order → Ids → Ids → Ordering
key_cmp order one other = slice_cmp nat_cmp (key_bytes order one) (key_bytes order other)

-- the rows by key, each once
pub record AreOrdered (rows given : List Row) : Type 0 where
  pub order : StandInOrder rows
  pub same : (row : Row) → Has rows row ↔ Has given row
