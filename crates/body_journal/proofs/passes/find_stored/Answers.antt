use Rattle.body_journal.proofs.Gathering.{found_at, passed}
use Rattle.body_journal.proofs.passes.find_stored.Goals as goal

pub returns-in-Some : goal.returns-in-Some
returns-in-Some c = found_at c.args.held.now c.held.one-index c.one-item.result c.args.serial c.args.body.now c.in-Some.before c.held-test.true c.one-item.is c.in-Some.ensures

pub held-preserved : goal.held-preserved
held-preserved c = λ before has.
    passed c.args.held.now c.held.one-index c.one-item.result c.args.serial c.args.body.now before c.held-test.true c.one-item.is c.in_default.ensures (c.held.invariant before has)
