use Rattle.query_text.specs.Meaning.{variables_of_node, labels_of_node}
use Rattle.query_text.specs.Building.{node_said, triple_said}
use Rattle.query_text.proofs.Named.{slot_later, pattern_is}
use Rattle.query_text.proofs.build.pattern_of.Goals as goal

pub returns-clause-pattern : goal.returns-clause-pattern
returns-clause-pattern c =
    let ds = c.args.declarations.now in
    let t = c.args.triple in
    let first = c.slot_of.new.scope in
    let second = c.slot_of-2.new.scope in
    let third = c.slot_of-3.new.scope in
    let subject = slot_later first.variables.list.items first.labels.list.items second.variables.list.items second.labels.list.items
    (variables_of_node (node_said ds t.predicate)) (labels_of_node (node_said ds t.predicate)) (node_said ds t.subject) c.in_ok-subject.subject
    c.in_ok-subject.ensures.slot c.in_ok-predicate.ensures.variables c.in_ok-predicate.ensures.labels in
    let subject_last = slot_later second.variables.list.items second.labels.list.items third.variables.list.items third.labels.list.items
    (variables_of_node (node_said ds t.object)) (labels_of_node (node_said ds t.object)) (node_said ds t.subject) c.in_ok-subject.subject
    subject c.in_ok-object.ensures.variables c.in_ok-object.ensures.labels in
    let predicate_last = slot_later second.variables.list.items second.labels.list.items third.variables.list.items third.labels.list.items
    (variables_of_node (node_said ds t.object)) (labels_of_node (node_said ds t.object)) (node_said ds t.predicate) c.in_ok-predicate.predicate
    c.in_ok-predicate.ensures.slot c.in_ok-object.ensures.variables c.in_ok-object.ensures.labels in
    pattern_is third.variables.list.items third.labels.list.items (triple_said ds t) c.in_ok-subject.subject c.in_ok-predicate.predicate c.in_ok-object.object
    subject_last predicate_last c.in_ok-object.ensures.slot
