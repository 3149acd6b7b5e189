use Rattle.std.proofs.Common.{◌+◌, ◌<◌, List, ℕ, [], ◌∷◌, ◌++◌, drop, IfSome, Ok, sym, ◌∙◌, ap, subst, arith}
use Rattle.std.proofs.lemmas.Result.{err_from_is_err_and}
use Rattle.record_log.specs.Gates.{AreWhole, IsBehind}
use Rattle.record_log.specs.Devices.{ReadsFile}
use Rattle.record_log.specs.Sizes.{total_of}
use Rattle.record_log.proofs.Extents.{total_of-append}
use Rattle.record_log.proofs.Finding.{SoFar, more_so_far, found_so_far, fault_so_far}
use Rattle.record_log.proofs.gates.find_records.Goals as goal

pub returns-in_err-body-clause-bad : goal.returns-in_err-body-clause-bad
returns-in_err-body-clause-bad g c = λ bytes reads size.
    let again : ReadsFile (g.D.Disk.told c.gates.disk) c.args.file bytes = subst (λ told. ReadsFile told c.args.file bytes) (sym c.gates.invariant.same) reads in
    let p = err_from_is_err_and c.from_residual.result c.from_residual.ensures.1 in
    let fault = fault_so_far bytes c.gates.extent.sizes c.gates.gate _ (omega (arith, size, c.requires)) (c.gates.invariant.so_far bytes reads size) (c.in_err-body.ensures.behind bytes again size) in
    rw (p.1, p.2) fault

pub returns-in_default-clause-found : goal.returns-in_default-clause-found
returns-in_default-clause-found g c = λ bytes reads size.
    let again : ReadsFile (g.D.Disk.told c.gates.disk) c.args.file bytes = subst (λ told. ReadsFile told c.args.file bytes) (sym c.gates.invariant.same) reads in
    let behind = c.in_ok-body.ensures.behind bytes again size in
    found_so_far bytes c.gates.extent.sizes c.gates.gate (c.gates.invariant.so_far bytes reads size)
    (subst (λ body. IsBehind bytes c.gates.gate (Ok body)) c.in_default.is behind)

pub gates-preserved : goal.gates-preserved
gates-preserved g c =
    let below : c.gates.gate + 5 + c.in-Some.body < c.args.size =
    subst (λ body. IfSome body (λ n. c.gates.gate + 5 + n < c.args.size)) c.in-Some.is c.in_ok-body.ensures.within in
    let total = ap total_of c.in_ok-add.ensures.sizes ∙ total_of-append c.gates.extent.sizes (c.in-Some.body ∷ []) in
    record {
      within = omega (arith, below, c.from.ensures);
      gate = omega (arith, c.from.ensures, total, c.gates.invariant.gate);
      settled = c.in_ok-add.ensures.settled;
      same = c.in_ok-body.ensures.same ∙ c.gates.invariant.same;
      later = omega (arith, c.gates.invariant.later, c.in_ok-body.ensures.counted.later);
      so_far = λ bytes reads size.
          let again : ReadsFile (g.D.Disk.told c.gates.disk) c.args.file bytes = subst (λ told. ReadsFile told c.args.file bytes) (sym c.gates.invariant.same) reads in
          let whole : AreWhole (drop c.gates.gate bytes) c.in-Some.body =
          subst (λ body. IsBehind bytes c.gates.gate (Ok body)) c.in-Some.is (c.in_ok-body.ensures.behind bytes again size) in
          let more : SoFar bytes (c.gates.extent.sizes ++ c.in-Some.body ∷ []) (c.gates.gate + (5 + c.in-Some.body)) =
          more_so_far bytes c.gates.extent.sizes c.gates.gate c.in-Some.body (c.gates.invariant.so_far bytes reads size) whole in
          subst (λ n. SoFar bytes c.add.new.self.sizes (c.gates.gate + (5 + n))) (sym c.from.ensures)
          (subst (λ (sizes : List ℕ). SoFar bytes sizes (c.gates.gate + (5 + c.in-Some.body))) (sym c.in_ok-add.ensures.sizes) more);
    }
