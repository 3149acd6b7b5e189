use Rattle.change_model.proofs.Newest.{IsLastRow-append}
use Rattle.change_model.proofs.law.longer_last_row_law.Goals as goal

pub returns : goal.returns
returns c = IsLastRow-append
