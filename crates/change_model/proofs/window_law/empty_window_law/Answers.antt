use Rattle.change_model.proofs.WindowSteps.{empty_window_law}
use Rattle.change_model.proofs.window_law.empty_window_law.Goals as goal

pub returns : goal.returns
returns c = empty_window_law
