use Rattle.std.proofs.Common.{Ok, Err, refl, arith}
use Rattle.std.proofs.lemmas.Result.{err_from_is_err_and}
use Rattle.work_text.proofs.WorkScan.{IsScanned-more, IsWorkFault-stop, IsWork-from, only_work}
use Rattle.work_text.proofs.read.read_work.Goals as goal

pub lines-preserved : goal.lines-preserved
lines-preserved c = (
  IsScanned-more c.args.bytes.now c.lines.rest.now c.in-Some.behind.now c.in-Some.line.now c.lines.number c.lines.read c.in_ok-read.read
      c.in-Some.ensures.cut c.in_ok-read.ensures.found c.lines.invariant.0,
  omega (arith, c.in-Some.ensures.shorter),
)

pub returns-in_err-read-clause-only : goal.returns-in_err-read-clause-only
returns-in_err-read-clause-only c =
    let p = err_from_is_err_and c.from_residual.result c.from_residual.ensures.1 in
    let fault = c.in_err-read.field-0.0 in
    rw (p.1, p.2)
    (only_work c.args.bytes.now (Err fault) tt
    (IsWorkFault-stop c.args.bytes.now c.lines.rest.now c.in-Some.behind.now c.in-Some.line.now c.lines.number c.lines.read fault
    c.in-Some.ensures.cut c.in_err-read.ensures.fault c.lines.invariant.0))

pub returns-in-Some-read-clause-only : goal.returns-in-Some-read-clause-only
returns-in-Some-read-clause-only c =
    let lines = c.in-Some-read.lines in
    only_work c.args.bytes.now (Ok (record { lines = lines }))
    (IsWork-from c.args.bytes.now c.lines.rest.now c.lines.number (record { lines = lines }) (c.in_default.ensures.none.0 refl)
    (rw c.in-Some-read.is at c.lines.invariant.0)) tt
