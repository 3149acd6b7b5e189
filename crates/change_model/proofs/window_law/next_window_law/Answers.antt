use Rattle.change_model.proofs.WindowSteps.{next_window_law}
use Rattle.change_model.proofs.window_law.next_window_law.Goals as goal

pub returns : goal.returns
returns c = next_window_law
