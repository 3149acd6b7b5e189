use Rattle.change_model.proofs.NarrowedWindows.{narrowed_window_law}
use Rattle.change_model.proofs.window_law.narrowed_window_law.Goals as goal

pub returns : goal.returns
returns c = narrowed_window_law
