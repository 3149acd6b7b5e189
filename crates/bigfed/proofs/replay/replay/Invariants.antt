use Rattle.std.proofs.Common.{◌≡◌, ◌≤◌, ◌+◌, ◌++◌, List, [], length, drop}
use Rattle.work_text.specs.declared.report.Outcome.{Outcome}
use Rattle.change_model.specs.History.{History}
use Rattle.bigfed.specs.Documents.{docs_of}
use Rattle.bigfed.specs.Legal.{Runs}
use Rattle.bigfed.specs.Standing.{StoreStandsFor}
use Rattle.bigfed.proofs.replay.replay.Given as goal

-- whatever the lines to come do, the lines before them have done their part
abbrev pub invariant-loop-line : goal.invariant-loop-line
invariant-loop-line l = record {
  history : History;
  stands : StoreStandsFor l.store history;
  completes : (outcomes : List Outcome) (after : History) → Runs (docs_of l.docs) l.place (drop l.line-index l.work.lines) history outcomes after
      → Runs (docs_of l.docs) 1 l.work.lines [] (l.outcomes.items ++ outcomes) after;
  place : l.place ≡ l.line-index + 1;
  commits : length l.store.origins ≤ l.line-index;
}
