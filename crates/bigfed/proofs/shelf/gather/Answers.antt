use Rattle.std.proofs.Common.{◌+◌, ◌∙◌, List, arith}
use Rattle.work_text.specs.declared.work.Line.{Line}
use Rattle.bigfed.proofs.Gathered.{AreGathered-all, gathered_each, gathered_line, gathered_over}
use Rattle.bigfed.proofs.shelf.gather.Goals as goal
use Rattle.bigfed.specs.Limits.{largest_documents}

pub loop-line-preserved : goal.loop-line-preserved
loop-line-preserved g c =
    let so_far = c.loop-line.invariant in
    record {
      gathered = gathered_line _ _ c.loop-line.docs c.add_line.new.docs c.args.work.now.lines _ c.loop-line.line-index c.loop-line.size c.in_ok-size.field-0 c.line-item.result
          so_far.same c.items-line-items.ensures c.loop-line-test.true c.line-item.is c.in_ok-size.ensures.gathered so_far.gathered;
      small = c.if-size-gt-MOST_BYTES_TOGETHER.false;
      same = c.in_ok-size.ensures.same ∙ so_far.same;
      later = omega (arith, so_far.later, c.in_ok-size.ensures.later);
    }

pub returns-then-size-gt-MOST_BYTES_TOGETHER-clause-large : goal.returns-then-size-gt-MOST_BYTES_TOGETHER-clause-large
returns-then-size-gt-MOST_BYTES_TOGETHER-clause-large g c =
    let so_far = c.loop-line.invariant in
    gathered_over _ c.add_line.new.docs c.args.work.now (c.loop-line.line-index + 1) _ largest_documents
    (gathered_line _ _ c.loop-line.docs c.add_line.new.docs c.args.work.now.lines _ c.loop-line.line-index c.loop-line.size c.in_ok-size.field-0 c.line-item.result
    so_far.same c.items-line-items.ensures c.loop-line-test.true c.line-item.is c.in_ok-size.ensures.gathered so_far.gathered)
    c.if-size-gt-MOST_BYTES_TOGETHER.true

pub returns-clause-found : goal.returns-clause-found
returns-clause-found g c name needed =
    let lines : List Line = c.args.work.now.lines in
    let past = rw c.items-line-items.ensures at c.loop-line-test.false in
    gathered_each _ c.loop-line.docs lines c.loop-line.size name
    (AreGathered-all _ c.loop-line.docs lines c.loop-line.line-index c.loop-line.size past c.loop-line.invariant.gathered) needed
