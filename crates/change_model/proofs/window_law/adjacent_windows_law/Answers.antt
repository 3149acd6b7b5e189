use Rattle.change_model.proofs.AdjacentWindows.{adjacent_windows_law}
use Rattle.change_model.proofs.window_law.adjacent_windows_law.Goals as goal

pub returns : goal.returns
returns c = adjacent_windows_law
