use Rattle.std.proofs.Common.{◌∙◌}
use Rattle.work_text.proofs.LeftOut.{left_out}
use Rattle.work_text.proofs.write.write_left_out.Goals as goal

pub returns-clause-text : goal.returns-clause-text
returns-clause-text c =
    left_out c.append.result c.args.draft.now.text c.append.new.draft.text _ c.text-word.result.now _ _ c.text-word.ensures
    (c.as_str.ensures.value ∙ c.in_ok-format.ensures.ok) c.append.ensures.text
