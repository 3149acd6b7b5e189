use Rattle.change_model.proofs.Shown.{graph_law}
use Rattle.change_model.proofs.law.graph_law.Goals as goal

pub returns : goal.returns
returns c = graph_law
