use Rattle.std.proofs.Common.{◌∙◌}
use Rattle.bigfed.proofs.Growth.{spelled_turn, spelled_all}
use Rattle.bigfed.proofs.indexes.Indexes.ids_of_spellings.Goals as goal

pub spellings-preserved : goal.spellings-preserved
spellings-preserved c history terms are rules spelled =
    spelled_turn history terms c.args.spellings.now c.spellings.spelling-index c.spelling-item.result c.in_ok-id_spelled.field-0 c.spellings.ids.items c.push.new.self.items
    c.spellings-test.true c.spelling-item.is spelled rules
    (λ term keeps same. c.in_ok-id_spelled.ensures history term are keeps (c.bytes.ensures ∙ same))
    (c.spellings.invariant history terms are rules spelled) c.in_ok-push.ensures.items

pub returns : goal.returns
returns c history terms are rules spelled =
    spelled_all history terms c.args.spellings.now c.spellings.spelling-index c.spellings.ids.items c.of.result c.spellings-test.false spelled
    (c.spellings.invariant history terms are rules spelled) c.of.ensures
