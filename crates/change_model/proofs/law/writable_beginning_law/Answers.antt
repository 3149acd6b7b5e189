use Rattle.change_model.proofs.Lexicons.{IsWritable-front}
use Rattle.change_model.proofs.law.writable_beginning_law.Goals as goal

pub returns : goal.returns
returns c = IsWritable-front
