use Rattle.std.proofs.Common.{ℕ, List, map, take}
use Rattle.std.specs.Arc.{arc_value}
use Rattle.term_core.specs.declared.term.Term.{Term}
use Rattle.change_model.specs.Known.{AreTold}
use Rattle.change_model.specs.Numbering.{AreIdsIn, AreIdsAt, AreSpelled, BindWell}
use Rattle.change_model.proofs.known.known_ids.Given as goal

abbrev pub invariant-terms : goal.invariant-terms
invariant-terms l =
    (time : ℕ) (early base : List Term) → AreTold time early base (map arc_value l.later) → AreSpelled l.vocabulary → BindWell time l.vocabulary.terms → AreIdsIn early l.vocabulary.terms l.ids
    → AreIdsAt time base (take l.place l.vocabulary.terms) l.known.items
