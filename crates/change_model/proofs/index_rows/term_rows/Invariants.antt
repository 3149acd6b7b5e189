use Rattle.std.proofs.Common.{◌≡◌, map}
use Rattle.change_model.specs.EntryRows.{term_row}
use Rattle.change_model.proofs.index_rows.term_rows.Given as goal

abbrev pub invariant-terms : goal.invariant-terms
invariant-terms l = l.rows.items ≡ map (term_row l.time) l.yielded
