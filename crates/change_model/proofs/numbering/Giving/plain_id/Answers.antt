use Rattle.std.proofs.Common.{ℕ, Option, subst, sym}
use Rattle.change_model.specs.Numbering.{IsNext, IsGiven, nodes_of}
use Rattle.change_model.proofs.EntryChanges.{next_given}
use Rattle.change_model.proofs.EntryNumbering.{given_known, given_new, counted_as}
use Rattle.change_model.proofs.numbering.Giving.plain_id.Goals as goal

pub returns-in-Some-clause-given : goal.returns-in-Some-clause-given
returns-in-Some-clause-given c base known time plain next key is =
    given_known base known time c.args.term.now c.in-Some.id _ _ _ (subst (λ (o : Option ℕ). IsNext base known time c.args.term.now o) c.in-Some.is next) is

pub returns-clause-given : goal.returns-clause-given
returns-clause-given c base known time plain next key is =
    let comes = subst (λ (o : Option ℕ). IsNext base known time c.args.term.now o) c.in_default.is next in
    let given = given_new base known time c.args.term.now c.in_ok-key.key c.args.self.now.count c.in_ok-id.id c.args.self.now.brought.items c.next_id.new.self.brought.items (nodes_of c.args.self.now.nodes)
    plain (c.in_ok-key.ensures key) c.in_ok-id.ensures.id c.in_ok-id.ensures.brought comes is in
    counted_as base known time c.args.term.now c.in_ok-id.id c.in_ok-id.id c.next_id.new.self.count c.next_id.new.self.brought.items (nodes_of c.next_id.new.self.nodes) c.in_ok-id.ensures.count
    (subst (λ nodes. IsGiven base known time c.args.term.now c.in_ok-id.id c.in_ok-id.id c.next_id.new.self.brought.items (nodes_of nodes)) (sym c.in_ok-id.ensures.nodes) given)

pub returns-clause-rising : goal.returns-clause-rising
returns-clause-rising c = next_given c.args.self.now.count c.in_ok-id.id c.next_id.new.self.count c.args.self.now.brought.items c.next_id.new.self.brought.items _ c.in_ok-id.ensures.id c.in_ok-id.ensures.fits c.in_ok-id.ensures.count c.in_ok-id.ensures.brought
