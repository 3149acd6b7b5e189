use Rattle.std.proofs.Common.{◌≡◌, ◌+◌, ◌++◌, drop}
use Rattle.work_text.specs.Report.{sessions_text}
use Rattle.work_text.proofs.write.write_sessions.Given as goal

abbrev pub invariant-loop-before : goal.invariant-loop-before
invariant-loop-before l = record {
  text : l.draft.text ++ sessions_text (l.before + 1) l.lines (drop l.before l.sessions) ≡ l.initial.draft.text ++ sessions_text 1 l.lines l.sessions;
  kept : l.draft.kept ≡ l.initial.draft.kept;
}
