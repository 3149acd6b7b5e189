use Rattle.std.proofs.Common.{◌≡◌, ◌++◌, ◌∷◌, [], ℕ, List, Some, length, refl, sym, subst, rules}
use Rattle.scan_core.specs.Scans.{Scanning, IsScan, AreAgain}
use Rattle.scan_core.proofs.Distinct.{distinct_put}
use Rattle.scan_core.proofs.Taking.{loses}
use Rattle.scan_core.proofs.scan.Scan.lose.Goals as goal

pub invariant_of-self-in-None : goal.invariant_of-self-in-None
invariant_of-self-in-None c =
    loses _ c.args.number c.put.new.self c.self.invariant
    (subst (λ (s : Scanning). s.asked ≡ Some c.args.number) (sym c.self.view_is) c.requires)
    c.in-None.ensures.put c.in-None.ensures.eight

pub returns-in-Some-clause-again : goal.returns-in-Some-clause-again
returns-in-Some-clause-again c =
    let asked = subst (λ (s : Scanning). s.asked ≡ Some c.args.number) (sym c.self.view_is) c.requires in (
      c.in-Some.numbers,
      refl,
      subst (λ (s : Scanning). AreAgain s.retired c.args.number c.in-Some.numbers) c.self.view_is (record {
        are = c.in-Some.ensures.put;
        eight = search rules;
        distinct = rw c.in-Some.ensures.put (distinct_put _ c.args.number c.self.invariant.distinct (c.self.invariant.other c.args.number asked));
      }),
    )
