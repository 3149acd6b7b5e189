use Rattle.change_model.proofs.WindowEntries.{given_entry}
use Rattle.change_model.proofs.entry_law.given_entry_law.Goals as goal

pub returns : goal.returns
returns c = given_entry
