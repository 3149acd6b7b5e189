use Rattle.change_model.proofs.WindowSteps.{longer_history_law}
use Rattle.change_model.proofs.window_law.longer_history_law.Goals as goal

pub returns : goal.returns
returns c = longer_history_law
