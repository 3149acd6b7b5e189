use Rattle.change_model.proofs.Naming.{id_law}
use Rattle.change_model.proofs.law.id_law.Goals as goal

pub returns : goal.returns
returns c = id_law
