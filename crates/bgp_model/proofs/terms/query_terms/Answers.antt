use Rattle.std.proofs.Common.{◌≡◌, ◌≤◌, length, take, ap, subst, ◌∙◌}
use Rattle.std.specs.List.{flat_map}
use Rattle.std.proofs.lemmas.List.{take_all}
use Rattle.bgp_model.specs.QueryTerms.{firsts}
use Rattle.bgp_model.specs.GatheredTerms.{fixed_in_pattern}
use Rattle.bgp_model.proofs.Firsts.{all_gathered}
use Rattle.bgp_model.proofs.terms.query_terms.Goals as goal

pub returns : goal.returns
returns c =
    let patterns = c.args.query.now.patterns in
    let whole : take c.patterns.pattern-index patterns ≡ patterns =
    take_all c.patterns.pattern-index patterns (subst (λ ps. length ps ≤ c.patterns.pattern-index) c.items-pattern-items.ensures c.patterns-test.false) in
    c.of.ensures ∙ c.patterns.invariant.order ∙ ap (λ ps. firsts (flat_map fixed_in_pattern ps)) whole ∙ ap firsts (all_gathered patterns)
