use Rattle.std.proofs.Common.{◌∙◌, ap}
use Rattle.std.specs.Arc.{arc_value}
use Rattle.change_model.specs.declared.entry.Entry.{Entry}
use Rattle.change_model.proofs.LaterIds.{none_more, none_all, one_gives}
use Rattle.change_model.proofs.known.later_id.Goals as goal

pub entries-preserved : goal.entries-preserved
entries-preserved c =
    none_more arc_value c.args.key.now c.args.later.now c.entries.entry-index c.entry-item.result c.items.result.now c.entries-test.true c.entry-item.is
    (c.items.ensures ∙ ap (λ (e : Entry). e.t2i) c.deref.ensures) c.entries.invariant c.in_default.ensures.found

pub returns-in-entries-clause-found : goal.returns-in-entries-clause-found
returns-in-entries-clause-found c =
    one_gives arc_value c.args.key.now c.args.later.now c.entries.entry-index c.entry-item.result c.items.result.now c.in-Some.id c.entries-test.true c.entry-item.is
    (c.items.ensures ∙ ap (λ (e : Entry). e.t2i) c.deref.ensures) c.in-Some.ensures.found

pub returns-clause-found : goal.returns-clause-found
returns-clause-found c = none_all arc_value c.args.key.now c.args.later.now c.entries.entry-index c.entries-test.false c.entries.invariant
