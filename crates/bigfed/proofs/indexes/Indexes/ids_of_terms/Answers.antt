use Rattle.std.proofs.Common.{arith, ap, ◌∙◌, length, [], ◌∷◌}
use Rattle.std.proofs.Common.{length-append}
use Rattle.bigfed.proofs.Growth.{ids_turn}
use Rattle.bigfed.proofs.indexes.Indexes.ids_of_terms.Goals as goal

pub terms-preserved : goal.terms-preserved
terms-preserved c = record {
  ids = λ history are.
      ids_turn history c.args.terms.now c.terms.term-index c.term-item.result c.in_ok-id_of.field-0 c.terms.ids.items c.push.new.self.items c.terms-test.true
      c.term-item.is (c.terms.invariant.ids history are) (c.in_ok-id_of.ensures history are) c.in_ok-push.ensures.items;
  one_each =
      let long = ap length c.in_ok-push.ensures.items ∙ length-append c.terms.ids.items (c.in_ok-id_of.field-0 ∷ []) in
      let before = c.terms.invariant.one_each in omega arith;
}
