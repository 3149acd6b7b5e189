use Rattle.std.proofs.Common.{List}
use Rattle.term_core.specs.declared.term.Term.{Term}
use Rattle.change_model.specs.Numbering.{IsBase, BindWell, AreSpelled, AreIdsAt, AreNextTo, nodes_of}
use Rattle.change_model.proofs.EntryGiven.{HaveSoFar}
use Rattle.change_model.proofs.numbering.give_ids.Given as goal

abbrev pub invariant-terms : goal.invariant-terms
invariant-terms l = AreNextTo l.count l.giving.brought.items l.giving.count × (
    (base : List Term) → IsBase base l.count l.time → AreSpelled l.vocabulary → BindWell l.time l.vocabulary.terms → AreIdsAt l.time base l.vocabulary.terms l.ids
    → HaveSoFar base l.time l.vocabulary.terms l.place l.given.items l.giving.count l.giving.brought.items (nodes_of l.giving.nodes))
