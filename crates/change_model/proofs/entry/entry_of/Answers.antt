use Rattle.std.proofs.Common.{ℕ, List, map, sym, subst}
use Rattle.std.specs.Arc.{arc_value}
use Rattle.term_core.specs.declared.term.Term.{Term}
use Rattle.change_model.specs.Known.{AreTold}
use Rattle.change_model.specs.Numbering.{AreIdsIn, AreIdsAt, AreSpelled, BindWell}
use Rattle.change_model.proofs.EntryFits.{next_binds}
use Rattle.change_model.proofs.EntryKnown.{known_at, known_at_last}
use Rattle.change_model.proofs.entry.entry_of.Goals as goal

pub returns-clause-last : goal.returns-clause-last
returns-clause-last c history pinned origin is are writable count time =
    let resolved = c.args.resolved.now in
    let tells : (at : ℕ) (early base : List Term) → AreTold at early base (map arc_value c.args.later.now) → AreSpelled resolved.vocabulary → BindWell at resolved.vocabulary.terms
    → AreIdsIn early resolved.vocabulary.terms resolved.ids → AreIdsAt at base resolved.vocabulary.terms c.in_ok-known.known.items =
    λ at early base told spelled bind ids.
    c.in_ok-known.ensures at early base (subst (λ later. AreTold at early base (map arc_value later)) (sym c.items-2.ensures) told) spelled bind (subst (AreIdsIn early resolved.vocabulary.terms) (sym c.items.ensures) ids) in
    c.entry_with.ensures.last history origin is.vocabulary
    (known_at_last history pinned resolved origin c.args.time (map arc_value c.args.later.now) c.in_ok-known.known.items tells is are writable time) writable count time

pub returns-clause-fits : goal.returns-clause-fits
returns-clause-fits c history pinned origin is are writable well count time =
    let resolved = c.args.resolved.now in
    let tells : (at : ℕ) (early base : List Term) → AreTold at early base (map arc_value c.args.later.now) → AreSpelled resolved.vocabulary → BindWell at resolved.vocabulary.terms
    → AreIdsIn early resolved.vocabulary.terms resolved.ids → AreIdsAt at base resolved.vocabulary.terms c.in_ok-known.known.items =
    λ at early base told spelled bind ids.
    c.in_ok-known.ensures at early base (subst (λ later. AreTold at early base (map arc_value later)) (sym c.items-2.ensures) told) spelled bind (subst (AreIdsIn early resolved.vocabulary.terms) (sym c.items.ensures) ids) in
    c.entry_with.ensures.fits history origin is.vocabulary
    (known_at history pinned resolved c.args.time (map arc_value c.args.later.now) c.in_ok-known.known.items tells is are writable
    (next_binds resolved c.args.time c.ranges.time.fits is.vocabulary well) time) writable well count time
