use Rattle.std.proofs.Common.{◌≡◌, List, arith, ◌∙◌, subst}
use Rattle.row_core.specs.declared.rows.Row.{Row}
use Rattle.bigfed.specs.Shown.{IsKept, firsts}
use Rattle.bigfed.proofs.Collected.{Collected, nothing_yet, turned_one, all_done, kept_all, kept_new}
use Rattle.bigfed.proofs.shown.keep_shown.Goals as goal

pub rows-init : goal.rows-init
rows-init c = record { collected = nothing_yet (IsKept c.args.order c.args.span.now) c.args.found.now.items; distinct = λ distinct apart. distinct }

pub rows-preserved : goal.rows-preserved
rows-preserved c =
    let all : List Row = c.items-row-items.result.now in
    let are : all ≡ firsts c.args.rows = c.items-row-items.ensures ∙ c.newest_of-newest.ensures in
    let kept = IsKept c.args.order c.args.span.now in
    record {
      collected = turned_one kept _ c.rows.row-index c.row-item.result c.args.found.now.items c.rows.found.items _
          (omega arith) c.row-item.is c.rows.invariant.collected c.in_ok-keep.ensures.kept;
      distinct = λ distinct apart.
          c.in_ok-keep.ensures.distinct (c.rows.invariant.distinct distinct apart)
          (kept_new c.args.order c.args.span.now c.args.rows all c.rows.row-index c.row-item.result c.args.found.now.items c.rows.found.items
          c.requires are (omega arith) c.row-item.is c.rows.invariant.collected apart);
    }

pub returns-clause-shown : goal.returns-clause-shown
returns-clause-shown c =
    let all : List Row = c.items-row-items.result.now in
    let collected = all_done (IsKept c.args.order c.args.span.now) all c.rows.row-index c.args.found.now.items c.rows.found.items (omega arith) c.rows.invariant.collected in
    kept_all c.args.rows c.args.order c.args.span.now c.args.found.now.items c.rows.found.items c.requires
    (subst (λ rows. Collected (IsKept c.args.order c.args.span.now) rows c.args.found.now.items c.rows.found.items) (c.items-row-items.ensures ∙ c.newest_of-newest.ensures) collected)
