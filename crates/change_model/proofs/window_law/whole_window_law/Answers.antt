use Rattle.change_model.proofs.UnprunedWindows.{whole_window_law}
use Rattle.change_model.proofs.window_law.whole_window_law.Goals as goal

pub returns : goal.returns
returns c = whole_window_law
