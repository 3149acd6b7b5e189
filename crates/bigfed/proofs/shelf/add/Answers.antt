use Rattle.std.proofs.Common.{ℕ, ◌+◌, sym, ◌∙◌, subst}
use Rattle.bigfed.specs.Documents.{AreGathered}
use Rattle.bigfed.specs.Names.{with_name}
use Rattle.bigfed.proofs.Gathered.{AreGathered-again, AreGathered-more}
use Rattle.bigfed.proofs.shelf.add.Goals as goal

pub returns-then-contains_key-clause-gathered : goal.returns-then-contains_key-clause-gathered
returns-then-contains_key-clause-gathered g c names size gathered =
    AreGathered-again _ c.args.docs.now names size c.args.name.now gathered (sym c.contains_key.ensures ∙ c.if-contains_key.true)

pub returns-clause-gathered : goal.returns-clause-gathered
returns-clause-gathered g c names size gathered =
    subst (λ (more : ℕ). AreGathered (g.S.Shelf.documents c.args.shelf.now) c.insert.new.self (with_name names c.args.name.now) (size + more)) (sym c.size_of-size.ensures)
    (AreGathered-more _ c.args.docs.now c.insert.new.self names size c.in_ok-copy.field-0 c.args.name.now c.in_ok-doc.doc gathered c.in_ok-copy.ensures
    (sym c.contains_key.ensures ∙ c.if-contains_key.false) c.in_ok-insert.ensures.updates.0 c.in_ok-doc.ensures.found)
