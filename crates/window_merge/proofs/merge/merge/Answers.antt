use Rattle.std.proofs.Common.{subst}
use Rattle.window_core.specs.Runs.{IsMerge}
use Rattle.window_merge.proofs.Merges.{merging_step, merging_all}
use Rattle.window_merge.proofs.merge.merge.Goals as goal

pub rows-preserved : goal.rows-preserved
rows-preserved c =
    merging_step c.from_vec-older.result.items c.from_vec-newer.result.items c.rows.older.items c.rows.newer.items _ _ c.rows.rows.items _ c.in-Some.row c.rows.invariant c.in-Some.ensures c.in_ok-push.ensures.items

pub returns : goal.returns
returns c =
    let merged = merging_all c.from_vec-older.result.items c.from_vec-newer.result.items c.rows.older.items c.rows.newer.items c.next_row.new.older.items c.next_row.new.newer.items c.rows.rows.items c.rows.invariant c.in_default.ensures in
    subst (λ list. IsMerge list c.args.newer.items c.rows.rows.items) c.from_vec-older.ensures.items
    (subst (λ list. IsMerge c.from_vec-older.result.items list c.rows.rows.items) c.from_vec-newer.ensures.items merged)
