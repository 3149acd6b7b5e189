use Rattle.change_model.proofs.JoinedWindows.{joined_window_law}
use Rattle.change_model.proofs.window_law.joined_window_law.Goals as goal

pub returns : goal.returns
returns c = joined_window_law
