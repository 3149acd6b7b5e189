use Rattle.fed_bytes.proofs.Orders.{no_answer}
use Rattle.window_core.proofs.Holding.{not_empty, empty_more}
use Rattle.window_core.proofs.runs.are_empty.Goals as goal

pub returns-then-len-gt0 : goal.returns-then-len-gt0
returns-then-len-gt0 c =
    (λ h. no_answer h, λ none. absurd (not_empty c.args.runs.now c.runs.run-index _ c.run-item.result c.runs-test.true c.run-item.is c.len.ensures c.if-len-gt0.true none))

pub runs-preserved : goal.runs-preserved
runs-preserved c = empty_more c.args.runs.now c.runs.run-index _ c.run-item.result c.runs-test.true c.run-item.is c.len.ensures c.if-len-gt0.false c.runs.invariant
