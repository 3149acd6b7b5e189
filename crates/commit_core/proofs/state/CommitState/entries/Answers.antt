use Rattle.std.proofs.Common.{◌≡◌, ℕ, ◌-◌, List, length, map, take, drop, sym, ap, ◌∙◌, subst, arith}
use Rattle.std.specs.Arc.{arc_value}
use Rattle.std.proofs.lemmas.List.{take-map, drop-map}
use Rattle.change_model.specs.declared.entry.Entry.{Entry}
use Rattle.change_model.specs.Entries.{AreEntriesBetween, AreTimed}
use Rattle.commit_core.specs.Rooms.{Room}
use Rattle.commit_core.proofs.Histories.{timed_range}
use Rattle.commit_core.proofs.state.CommitState.entries.Goals as goal

pub returns-clause-entries : goal.returns-clause-entries
returns-clause-entries g c =
    let shared = c.entries-entries.result.now in
    let from = c.args.from in
    let count = c.args.upto - from in
    ap (λ l. map arc_value l) c.of.ensures
    ∙ (c.in_ok-found.ensures
    ∙ (sym (take-map arc_value count (drop from shared))
    ∙ (ap (λ l. take count l) (sym (drop-map arc_value from shared))
    ∙ ap (λ l. take count (drop from l)) (c.entries-entries.ensures ∙ ap (λ (r : Room _). r.entries) c.self.view_is))))

pub returns-clause-rows : goal.returns-clause-rows
returns-clause-rows g c = λ have.
    let room = c.args.self.now in
    let from = c.args.from in
    let upto = c.args.upto in
    let none_less : from - 0 ≡ from = omega arith in
    let some : AreEntriesBetween room.seen from upto (take (upto - from) (drop (from - 0) room.entries)) =
    c.some_entries_law.ensures room.seen 0 from upto (length room.seen) room.entries have.entered (omega arith) c.requires.order c.requires.known in
    subst (λ (l : List Entry). AreEntriesBetween room.seen from upto l) (sym (returns-clause-entries g c))
    (subst (λ (n : ℕ). AreEntriesBetween room.seen from upto (take (upto - from) (drop n room.entries))) none_less some)

pub returns-clause-timed : goal.returns-clause-timed
returns-clause-timed g c =
    let room = c.args.self.now in
    let all : AreTimed 0 room.entries = subst (λ (r : Room _). AreTimed 0 r.entries) c.self.view_is c.self.invariant.0.history.timed in
    subst (λ (l : List Entry). AreTimed c.args.from l) (sym (returns-clause-entries g c)) (timed_range c.args.from c.args.upto room.entries all)
