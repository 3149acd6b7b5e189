use Rattle.std.proofs.Common.{arith}
use Rattle.window_core.proofs.Joining.{set_last}
use Rattle.window_core.proofs.runs.place_run.Goals as goal

pub returns-then-kept-len-clause-ok : goal.returns-then-kept-len-clause-ok
returns-then-kept-len-clause-ok c = set_last c.args.runs.now.items _ c.args.kept c.args.run (omega (arith, c.if-kept-len.true, c.len.ensures, c.args.runs.now.ok)) c.truncate.ensures.items
