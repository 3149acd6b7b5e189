use Rattle.std.proofs.Common.{◌≡◌, ◌+◌, ◌++◌, drop}
use Rattle.work_text.specs.Report.{commits_text}
use Rattle.work_text.proofs.write.write_commits.Given as goal

abbrev pub invariant-loop-before : goal.invariant-loop-before
invariant-loop-before l = record {
  text : l.draft.text ++ commits_text (l.opened + l.before + 1) (drop l.before l.origins) ≡ l.initial.draft.text ++ commits_text (l.opened + 1) l.origins;
  kept : l.draft.kept ≡ l.initial.draft.kept;
}
