use Rattle.std.proofs.Common.{◌≡◌, ℕ, List, length, ◌∙◌, ap, arith, rules}
use Rattle.body_journal.specs.Held.{bytes_of}
use Rattle.body_journal.proofs.Gathering.{gathered_one, stops}
use Rattle.body_journal.proofs.gather.gather.Goals as goal

pub returns-in_default-clause-fullest : goal.returns-in_default-clause-fullest
returns-in_default-clause-fullest c =
    let same : c.items.result.now ≡ bytes_of c.one-item.result = c.items.ensures ∙ c.deref.ensures in
    stops c.args.serial c.args.first.now c.args.held.now c.held.one-index c.held.group.others c.held.group.size c.one-item.result c.held.invariant.so_far.0 c.held.invariant.so_far.1
    c.held.invariant.so_far.2 c.held.invariant.so_far.3 c.held.invariant.within c.held-test.true c.one-item.is (search rules)
    (omega (arith, ap (λ (bytes : List ℕ). length bytes) same, c.in_default.ensures.cases))

pub held-preserved : goal.held-preserved
held-preserved c =
    let same : c.items.result.now ≡ bytes_of c.one-item.result = c.items.ensures ∙ c.deref.ensures in
    record {
      within = c.in-Some.ensures.within;
      few = omega (arith, c.held.invariant.few, c.in-Some.ensures.cases);
      so_far = gathered_one c.args.serial c.args.first.now c.args.held.now c.held.one-index c.held.group.others c.held.group.size c.in-Some.size c.one-item.result c.held.invariant.so_far.0
          c.held.invariant.so_far.1 c.held.invariant.so_far.2 c.held.invariant.so_far.3 c.held-test.true c.one-item.is (search rules)
          (omega (arith, ap (λ (bytes : List ℕ). length bytes) same, c.in-Some.ensures.cases));
    }
