use Rattle.change_model.proofs.UnprunedWindows.{unpruned_window_law}
use Rattle.change_model.proofs.window_law.unpruned_window_law.Goals as goal

pub returns : goal.returns
returns c = unpruned_window_law
