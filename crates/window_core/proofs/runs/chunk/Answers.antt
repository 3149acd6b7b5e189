use Rattle.std.proofs.Common.{refl, ◌∙◌}
use Rattle.window_core.proofs.Gathering.{gathered_none, step_read, less_read, full_read, all_read}
use Rattle.window_core.proofs.runs.chunk.Goals as goal

pub rows-init : goal.rows-init
rows-init c = gathered_none c.args.runs.now c.args.key.now c.args.time _ _ c.args.most c.requires.times c.in_ok-passed.ensures c.new-rows.ensures.items

pub returns-in_default-left_for : goal.returns-in_default-left_for
returns-in_default-left_for c =
    full_read c.args.runs.now c.args.key.now c.args.most c.rows.rows.items c.rows.passed.items c.as_slice.result.now c.rows.left c.in-Some.run' c.index-index.result.now c.index-runs-run.result
    c.index-runs-run-in_default-left_for.result c.requires.runs c.rows.invariant c.as_slice.ensures.value c.in-Some.ensures c.index-index.ensures c.index-runs-run.is
    c.index-runs-run-in_default-left_for.is _ c.as_slice-in-Some.ensures.value _ c.key_at.ensures.key c.in_default-left_for.ensures _ c.of-in_default-left_for.ensures
    _ (c.in_ok-next.ensures ∙ c.key_at-in_default-left_for.ensures.key) refl

pub rows-smaller : goal.rows-smaller
rows-smaller c =
    less_read c.args.runs.now c.args.key.now c.rows.rows.items c.rows.passed.items c.as_slice.result.now c.rows.left c.args.most c.in-Some.run' c.index-index.result.now c.rows.invariant
    c.as_slice.ensures.value c.in-Some.ensures c.index-index.ensures

pub rows-preserved : goal.rows-preserved
rows-preserved c =
    step_read c.args.runs.now c.args.key.now c.rows.rows.items c.rows.passed.items c.as_slice.result.now c.rows.left c.in-Some-left_for.others c.args.most c.in-Some.run' c.index-index.result.now
    c.index-runs-run.result c.index-runs-run-in-Some.result c.requires.runs c.rows.invariant c.as_slice.ensures.value c.in-Some.ensures c.index-index.ensures c.index-runs-run.is
    c.index-runs-run-in-Some.is _ c.as_slice-in-Some.ensures.value _ c.key_at.ensures.key c.in-Some-left_for.ensures _ c.in_ok-row.ensures _ c.in_ok-push.ensures.items

pub returns : goal.returns
returns c =
    all_read c.args.runs.now c.args.key.now c.args.most c.rows.rows.items c.rows.passed.items c.as_slice.result.now c.rows.left c.requires.runs c.rows.invariant c.as_slice.ensures.value c.in_default.ensures
    _ c.of-2.ensures refl
