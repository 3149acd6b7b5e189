use Rattle.std.proofs.Common.{◌≡◌, map, take}
use Rattle.change_model.specs.EntryRows.{id_row}
use Rattle.change_model.proofs.index_rows.id_rows.Given as goal

abbrev pub invariant-terms : goal.invariant-terms
invariant-terms l = l.rows.items ≡ map (id_row l.time) (take l.term-index l.terms)
