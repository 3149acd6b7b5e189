use Rattle.std.proofs.Common.{◌≡◌, [], take, map, unwrap_or}
use Rattle.std.specs.List.{slice_get}
use Rattle.bigfed.proofs.store.column_names.Given as goal

abbrev pub invariant-loop-column : goal.invariant-loop-column
invariant-loop-column l =
    l.columns.items ≡ map (λ column. unwrap_or (slice_get l.query.names column) []) (take l.column-index l.query.columns)
