use Rattle.std.proofs.Common.{◌≡◌, ℕ, List, Some, None, cond, ap, ◌∙◌}
use Rattle.term_core.specs.declared.term.Term.TheVariants.{Blank}
use Rattle.term_core.specs.Spelling.{spelling}
use Rattle.change_model.specs.Lexicon.{same_text}
use Rattle.change_model.specs.Numbering.{nodes_of}
use Rattle.change_model.proofs.EntryChanges.{next_given}
use Rattle.change_model.proofs.EntryNumbering.{given_found, given_node, counted_as}
use Rattle.change_model.proofs.numbering.Giving.node_id.Goals as goal

pub returns-in-Some-clause-given : goal.returns-in-Some-clause-given
returns-in-Some-clause-given c base known rules is =
    let nodes = nodes_of c.args.self.now.nodes in
    let found : Some c.in-Some.id.now ≡ nodes c.args.label.now = c.in-Some.ensures.value ∙ ap nodes (c.of.ensures ∙ c.text.ensures) in
    given_found base known c.args.time c.args.label.now c.in-Some.id.now c.args.self.now.count c.args.self.now.brought.items nodes found is

pub returns-clause-given : goal.returns-clause-given
returns-clause-given c base known rules is =
    let nodes = nodes_of c.args.self.now.nodes in
    let absent : None ≡ nodes c.args.label.now = c.in_default.ensures.value ∙ ap nodes (c.of.ensures ∙ c.text.ensures) in
    let key = c.in_ok-spelled.ensures ∙ ap (λ label. spelling (Blank c.args.time label)) c.in_ok-copy.ensures in
    let told : (q : List ℕ) → nodes_of c.insert.new.self q ≡ cond (same_text c.args.label.now q) (Some c.in_ok-id.id) (nodes q) =
    λ q. c.in_ok-insert.ensures.updates.0 q ∙ (λ i. cond (same_text ((c.of-2.ensures ∙ c.text-2.ensures) i) q) (Some c.in_ok-id.id) (nodes_of (c.in_ok-id.ensures.nodes i) q)) in
    counted_as base known c.args.time _ c.in_ok-id.id c.in_ok-id.id c.next_id.new.self.count _ _ c.in_ok-id.ensures.count
    (given_node base known c.args.time c.args.label.now c.in_ok-spelled.field-0 c.args.self.now.count c.in_ok-id.id c.args.self.now.brought.items c.next_id.new.self.brought.items nodes (nodes_of c.insert.new.self)
    rules key c.in_ok-id.ensures.id c.in_ok-id.ensures.brought absent told is)

pub returns-clause-rising : goal.returns-clause-rising
returns-clause-rising c = next_given c.args.self.now.count c.in_ok-id.id c.next_id.new.self.count c.args.self.now.brought.items c.next_id.new.self.brought.items _ c.in_ok-id.ensures.id c.in_ok-id.ensures.fits c.in_ok-id.ensures.count c.in_ok-id.ensures.brought
