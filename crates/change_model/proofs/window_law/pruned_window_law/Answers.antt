use Rattle.change_model.proofs.PrunedWindows.{pruned_window_law}
use Rattle.change_model.proofs.window_law.pruned_window_law.Goals as goal

pub returns : goal.returns
returns c = pruned_window_law
