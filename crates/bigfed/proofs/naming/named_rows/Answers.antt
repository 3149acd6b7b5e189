use Rattle.std.proofs.Common.{◌∙◌, ap, map}
use Rattle.bigfed.specs.Naming.{seat_at}
use Rattle.bigfed.proofs.Seats.{table_named, table_kept, table_long}
use Rattle.bigfed.proofs.naming.named_rows.Goals as goal

pub returns-clause-named : goal.returns-clause-named
returns-clause-named c history are =
    let named = c.in_ok-named.named in
    table_named history named c.places_of.new.distinct.keys c.args.rows.now c.cells.result.now c.in_ok-places.places.items c.in_ok-cells.cells.items c.columns.result c.len.result
    c.of-2.result c.of-2.ensures (c.in_ok-named.ensures.seats history are) c.in_ok-places.ensures
    (c.in_ok-cells.ensures ∙ ap (λ seats. map (seat_at seats) c.deref.result.now) c.as_slice.ensures.value ∙ ap (map (seat_at named.seats.items)) c.deref.ensures.value)
    c.len.ensures (c.cells.ensures c.columns.result c.columns.ensures)

pub returns-clause-terms : goal.returns-clause-terms
returns-clause-terms c = table_kept c.in_ok-named.named.terms.items c.columns.result c.len.result c.in_ok-cells.cells.items c.of-2.result c.of-2.ensures c.in_ok-named.ensures.terms

pub returns-clause-one_each : goal.returns-clause-one_each
returns-clause-one_each c = table_long c.in_ok-named.named.terms.items c.columns.result c.len.result _ c.in_ok-cells.cells.items c.of-2.result c.of-2.ensures c.len.ensures
