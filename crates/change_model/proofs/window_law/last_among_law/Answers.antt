use Rattle.change_model.proofs.AdjacentWindows.{last_among_law}
use Rattle.change_model.proofs.window_law.last_among_law.Goals as goal

pub returns : goal.returns
returns c = last_among_law
