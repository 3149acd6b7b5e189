use Rattle.std.proofs.Common.{◌≡◌, length, subst, arith}
use Rattle.window_core.specs.Runs.{IsLeast}
use Rattle.window_core.proofs.runs.least.Goals as goal

pub returns : goal.returns
returns c =
    let all : c.runs.next ≡ length c.args.runs.now = omega (arith, c.runs-test.false, c.runs.auto.next-end) in
    subst (λ n. IsLeast c.args.runs.now c.args.passed.now n c.runs.found) all c.runs.invariant
