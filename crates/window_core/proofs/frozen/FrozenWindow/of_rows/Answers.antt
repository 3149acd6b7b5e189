use Rattle.std.proofs.Common.{◌∷◌, [], List, sym, ap, subst, ◌∙◌}
use Rattle.row_core.specs.declared.rows.Row.{Row}
use Rattle.row_core.specs.Rows.{AreWithin}
use Rattle.window_core.specs.Runs.{all_of, merged, AreRuns}
use Rattle.window_core.proofs.Arranging.{arranged_in_order}
use Rattle.window_core.proofs.Holding.{one_run, one_merged}
use Rattle.window_core.proofs.frozen.FrozenWindow.of_rows.Goals as goal

pub invariant_of-held : goal.invariant_of-held
invariant_of-held c =
    let whole = c.in_ok-vec.ensures.items ∙ ap (λ run. run ∷ []) (c.in_ok-run.ensures ∙ c.items.ensures) in
    let same = ap merged whole ∙ one_merged c.args.rows c.requires.in_order in
    let Are : List (List Row) → Type 0 = λ runs. AreRuns runs in
    record {
      are_runs = subst Are (sym whole) (one_run c.args.rows c.requires.in_order);
      ordered = arranged_in_order (all_of c.in_ok-vec.field-0.items);
      within = subst (AreWithin c.args.span c.args.from c.args.upto) (sym same) c.requires.within;
      times = c.requires.times;
    }

pub returns-clause-rows : goal.returns-clause-rows
returns-clause-rows c =
    let whole = c.in_ok-vec.ensures.items ∙ ap (λ run. run ∷ []) (c.in_ok-run.ensures ∙ c.items.ensures) in
    ap (λ held. merged held.runs.items) c.in_ok-new.ensures.ok ∙ ap merged whole ∙ one_merged c.args.rows c.requires.in_order
