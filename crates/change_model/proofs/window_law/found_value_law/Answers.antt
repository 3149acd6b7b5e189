use Rattle.change_model.proofs.WindowAnswers.{found_value_law}
use Rattle.change_model.proofs.window_law.found_value_law.Goals as goal

pub returns : goal.returns
returns c = found_value_law
