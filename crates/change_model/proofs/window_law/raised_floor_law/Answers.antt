use Rattle.change_model.proofs.WindowSteps.{raised_floor_law}
use Rattle.change_model.proofs.window_law.raised_floor_law.Goals as goal

pub returns : goal.returns
returns c = raised_floor_law
