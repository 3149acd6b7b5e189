use Rattle.work_text.proofs.WorkLines.{name_found}
use Rattle.work_text.proofs.read_line.name_in.Goals as goal

pub returns : goal.returns
returns c =
    rw c.ok.ensures.value
    (name_found c.args.bytes.now c.from_utf8.result _ (c.is_name.ensures.0 cc) c.from_utf8.ensures.cases)
