use Rattle.std.proofs.Common.{◌∷◌, ◌++◌, [], List, arith, sym, ◌∙◌, ap, subst, refl}
use Rattle.work_text.specs.declared.report.Outcome.{Outcome}
use Rattle.work_text.specs.declared.work.Line.{Line}
use Rattle.bigfed.specs.Documents.{docs_of}
use Rattle.bigfed.specs.Legal.{Runs}
use Rattle.bigfed.proofs.Steps.{completes_more, completes_all}
use Rattle.bigfed.proofs.replay.replay.Goals as goal

pub loop-line-preserved : goal.loop-line-preserved
loop-line-preserved c =
    let lines : List Line = c.args.work.now.lines in
    let line : Line = c.line-item.result in
    let so_far = c.loop-line.invariant in
    let step = c.in_ok-outcome.ensures.step so_far.history so_far.stands in
    let is = rw c.items-line-items.ensures at c.line-item.is in
    let below = rw c.items-line-items.ensures at c.loop-line-test.true in
    record {
      history = step.0;
      stands = step.2;
      completes = λ outcomes after runs.
          subst (λ (done : List Outcome). Runs (docs_of c.args.docs.now) 1 lines [] (done ++ outcomes) after) (sym c.in_ok-push.ensures.items)
          (completes_more (docs_of c.args.docs.now) lines c.loop-line.line-index c.loop-line.place line c.loop-line.outcomes.items c.in_ok-outcome.outcome
          so_far.history step.0 below is so_far.completes step.1 outcomes after runs);
      place = omega (arith, so_far.place);
      commits = omega (arith, so_far.commits, c.in_ok-outcome.ensures.commits);
    }

pub returns-clause-legal : goal.returns-clause-legal
returns-clause-legal c =
    let so_far = c.loop-line.invariant in
    let past = rw c.items-line-items.ensures at c.loop-line-test.false in (
      so_far.history,
      record {
        opened = refl;
        outcomes = c.loop-line.outcomes.items;
        of_session = c.of-2.ensures ∙ c.in_ok-vec.ensures.items ∙ ap (λ of_session. of_session ∷ []) c.of.ensures;
        runs = completes_all (docs_of c.args.docs.now) c.args.work.now.lines c.loop-line.line-index c.loop-line.place c.loop-line.outcomes.items
            so_far.history past so_far.completes;
        origins = c.into_origins.ensures ∙ so_far.stands.origins;
      },
    )

pub run_line-requires-clause-standing : goal.run_line-requires-clause-standing
run_line-requires-clause-standing c = (c.loop-line.invariant.history, c.loop-line.invariant.stands)
