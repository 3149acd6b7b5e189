use Rattle.std.proofs.Common.{rules, ◌∙◌, ap}
use Rattle.std.proofs.lemmas.Fn.{dedup_same}
use Rattle.bigfed.specs.Shown.{firsts, same_key}
use Rattle.bigfed.proofs.shown.newest_of.Goals as goal

pub returns : goal.returns
returns c =
    c.of.ensures ∙ dedup_same _ same_key _ (λ x y b f' x' y' k. search rules) _ _ c.dedup_by.ensures.filtered ∙ ap firsts c.into_items-rows.ensures
