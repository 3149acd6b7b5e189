use Rattle.std.proofs.Common.{◌-◌, ◌∙◌, arith}
use Rattle.window_core.proofs.Packing.{on_ok}
use Rattle.window_core.proofs.Joining.{joined_none, older_read, joined_read, joined_runs, joined_has}
use Rattle.window_core.proofs.runs.put_run.Goals as goal

pub runs-init : goal.runs-init
runs-init c = joined_none c.args.runs.now.items c.args.run _ c.requires.run c.requires.later (c.len-kept.ensures ∙ c.args.runs.now.ok.0)

pub merge-requires-clause-times : goal.merge-requires-clause-times
merge-requires-clause-times c =
    older_read c.args.runs.now.items c.args.run c.runs.kept (c.runs.kept - 1) c.index.result.now c.runs.run c.runs.invariant (omega (arith, c.is_short.ensures c.runs-test.true)) c.index.ensures

pub runs-preserved : goal.runs-preserved
runs-preserved c =
    joined_read c.args.runs.now.items c.args.run c.runs.kept (c.runs.kept - 1) c.index.result.now c.runs.run _ c.requires.runs c.runs.invariant (omega (arith, c.is_short.ensures c.runs-test.true)) c.index.ensures
    c.in_ok-run.ensures

pub returns-clause-runs : goal.returns-clause-runs
returns-clause-runs c = on_ok c.place_run.result _ _ (λ put. joined_runs c.args.runs.now.items _ c.args.run c.runs.kept c.runs.run c.requires.runs c.runs.invariant put) c.place_run.ensures.ok

pub returns-clause-has : goal.returns-clause-has
returns-clause-has c = on_ok c.place_run.result _ _ (λ put. joined_has c.args.runs.now.items _ c.args.run c.runs.kept c.runs.run c.runs.invariant put) c.place_run.ensures.ok
