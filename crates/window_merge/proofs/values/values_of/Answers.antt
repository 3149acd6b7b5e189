use Rattle.std.proofs.Common.{rules, ap, ◌∙◌}
use Rattle.std.specs.List.{filter, dedup}
use Rattle.std.proofs.lemmas.Fn.{filter_same, dedup_same}
use Rattle.window_merge.specs.Choosing.{is_asked_at, has_one_key, is_value_row}
use Rattle.window_merge.proofs.values.values_of.Goals as goal

pub returns : goal.returns
returns c =
    let asked = filter_same _ (is_asked_at c.args.span.now c.args.t) _ (λ x b f' k. search rules) _ _ c.retain.ensures.filtered in
    let newest = dedup_same _ has_one_key _ (λ x y b f' x' y' k. search rules) _ _ c.dedup_by.ensures.filtered in
    let values = filter_same _ is_value_row _ (λ x b f' k. search rules) _ _ c.retain-2.ensures.filtered in
    values ∙ ap (filter is_value_row) (newest ∙ ap (dedup has_one_key) asked)
