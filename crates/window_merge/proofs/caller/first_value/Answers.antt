use Rattle.std.proofs.Common.{sym}
use Rattle.window_merge.specs.Together.{rows_of_all}
use Rattle.window_merge.proofs.Calling.{first_value_is}
use Rattle.window_merge.proofs.caller.first_value.Goals as goal

pub returns-in-Some-clause-value : goal.returns-in-Some-clause-value
returns-in-Some-clause-value g c = λ stand.
    first_value_is (rows_of_all g.W.Window.rows c.args.windows.now) c.args.span.now c.args.t c.args.most c.in_ok-chunk.chunk c.items.result.now c.in-Some.row.now c.in_ok-copy-in-Some.field-0
    (c.in_ok-chunk.ensures.values stand) c.items.ensures (sym c.in-Some.ensures.value) c.in_ok-copy-in-Some.ensures
