use Rattle.std.proofs.Common.{◌-◌, arith}
use Rattle.window_core.proofs.Searching.{lack_none, lack_all, last_some, last_none}
use Rattle.window_core.proofs.runs.last.Goals as goal

pub runs-init : goal.runs-init
runs-init c = (omega arith, lack_none c.args.runs.now c.args.key.now c.args.time _ (omega arith))

pub returns-in-Some : goal.returns-in-Some
returns-in-Some c =
    last_some c.args.runs.now c.args.key.now c.args.time c.runs.left (c.runs.left - 1) c.in-Some.index c.index-runs-left.result _ c.requires c.runs.invariant.0
    (omega (arith, c.runs-test.true)) c.index-runs-left.is c.runs.invariant.1 c.in-Some.ensures c.in_ok-row.ensures

pub runs-preserved : goal.runs-preserved
runs-preserved c =
    last_none c.args.runs.now c.args.key.now c.args.time c.runs.left (c.runs.left - 1) c.index-runs-left.result c.runs.invariant.0
    (omega (arith, c.runs-test.true)) c.index-runs-left.is c.runs.invariant.1 c.in_default.ensures

pub returns : goal.returns
returns c = lack_all c.args.runs.now c.args.key.now c.args.time c.runs.left c.requires (omega (arith, c.runs-test.false)) c.runs.invariant.1
