use Rattle.std.proofs.Common.{subst}
use Rattle.std.proofs.lemmas.Result.{IfOk-weaker}
use Rattle.row_core.specs.Rows.{IsLast}
use Rattle.window_core.specs.Runs.{merged}
use Rattle.window_core.proofs.Found.{found_last}
use Rattle.window_core.proofs.held.Held.last.Goals as goal

pub returns-clause-found : goal.returns-clause-found
returns-clause-found c =
    IfOk-weaker c.last.result _ _
    (λ found last. found_last (merged c.args.self.now.runs.items) c.args.self.now.span c.args.self.now.from c.args.self.now.upto c.args.key.now c.args.t c.args.self.now.within found
    (subst (λ runs. IsLast (merged runs) c.args.key.now c.args.t found) c.as_slice.ensures.value last)) c.last.ensures
