use Rattle.std.proofs.Common.{◌≡◌, map, take}
use Rattle.change_model.specs.EntryRows.{statement_row}
use Rattle.change_model.proofs.index_rows.rows_of.Given as goal

abbrev pub invariant-statements : goal.invariant-statements
invariant-statements l = l.rows.items ≡ map (statement_row l.order l.kind l.time) (take l.ids-index l.statements)
