use Rattle.std.proofs.Common.{◌≡◌, ◌≤◌, ◌++◌, length, take, ap, subst, ◌∙◌}
use Rattle.std.specs.List.{flat_map}
use Rattle.std.proofs.lemmas.List.{take_all}
use Rattle.std.proofs.lemmas.List.Folds.{flat_map-map}
use Rattle.term_core.specs.Spelling.{spelling}
use Rattle.body_codec.specs.Writing.{counted}
use Rattle.body_codec.proofs.write.put_terms.Goals as goal

pub returns : goal.returns
returns c =
    let spellings = c.args.vocabulary.now.spellings in
    let whole : take c.terms.spelling-index spellings ≡ spellings =
    take_all c.terms.spelling-index spellings (subst (λ l. length l ≤ c.terms.spelling-index) c.items-spelling-items.ensures c.terms-test.false) in
    let all = ap (flat_map counted) (whole ∙ c.requires.spelled) ∙ flat_map-map counted spelling c.args.vocabulary.now.terms in
    c.terms.invariant ∙ ap (λ l. c.args.bytes.now.items ++ l) all
