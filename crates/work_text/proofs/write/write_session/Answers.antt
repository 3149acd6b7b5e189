use Rattle.std.proofs.Common.{arith, ◌≡◌, ◌++◌, ◌==◌, ℕ, Bool, false, List, [], ◌∷◌, length, codes, refl}
use Rattle.std.specs.Fmt.{decimal}
use Rattle.std.proofs.lemmas.Grind.{common_steps}
use Rattle.work_text.specs.declared.report.Outcome.{Outcome}
use Rattle.work_text.specs.declared.work.Command.{Command}
use Rattle.work_text.specs.Report.{ended, session_text, commands_of, commands_text}
use Rattle.work_text.proofs.write.write_session.Goals as goal

-- a session with outcomes, as a test found
printed : (session : ℕ) (commands : List Command) (outcomes : List Outcome) (empty : Bool)
    → empty ≡ false → empty ≡ (length outcomes == 0)
    → session_text session commands outcomes ≡ ended (codes "session " ++ decimal session) ++ commands_text 1 commands outcomes
printed session commands [] empty was is = cc
printed session commands (outcome ∷ outcomes) empty was is = refl

pub returns-clause-text : goal.returns-clause-text
returns-clause-text c =
    let is_printed = printed c.args.session (commands_of c.args.session c.args.lines.now) c.args.outcomes.now c.is_empty.result c.if-is_empty.false c.is_empty.ensures in
    rw is_printed (grind (arith, common_steps))
