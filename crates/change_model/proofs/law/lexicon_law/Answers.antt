use Rattle.change_model.proofs.Naming.{lexicon_law}
use Rattle.change_model.proofs.law.lexicon_law.Goals as goal

pub returns : goal.returns
returns c = lexicon_law
