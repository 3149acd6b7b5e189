use Rattle.std.proofs.Common.{◌≡◌, ◌+◌, ◌++◌, drop}
use Rattle.work_text.specs.Report.{commands_of, commands_text}
use Rattle.work_text.proofs.write.write_commands.Given as goal

abbrev pub invariant-loop-line : goal.invariant-loop-line
invariant-loop-line l = record {
  text : l.draft.text ++ commands_text (l.before + 1) (commands_of l.session (drop l.line-index l.lines)) (drop l.before l.outcomes)
      ≡ l.initial.draft.text ++ commands_text 1 (commands_of l.session l.lines) l.outcomes;
  kept : l.draft.kept ≡ l.initial.draft.kept;
}
