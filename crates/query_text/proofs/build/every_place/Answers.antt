use Rattle.std.proofs.Common.{◌≡◌, refl, arith, rules, ap, ◌∙◌}
use Rattle.std.specs.List.{range_with_len}
use Rattle.std.proofs.lemmas.Iterator.{items_from_collect, YieldsList-from_range}
use Rattle.query_text.proofs.build.every_place.Goals as goal

pub returns : goal.returns
returns c =
    let all = items_from_collect _ c.collect.ensures.ran (YieldsList-from_range 0 c.in-Ok.end c.in-Ok.end refl (omega arith)) in
    let made : c.in_ok-all.all.items ≡ range_with_len 0 c.in-Ok.end = rw c.in_ok-all.was at all in
    let at : c.in-Ok.end ≡ c.args.count = search rules in
    c.of.ensures ∙ made ∙ ap (range_with_len 0) at
