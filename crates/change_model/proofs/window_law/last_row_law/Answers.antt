use Rattle.change_model.proofs.WindowAnswers.{last_row_law}
use Rattle.change_model.proofs.window_law.last_row_law.Goals as goal

pub returns : goal.returns
returns c = last_row_law
