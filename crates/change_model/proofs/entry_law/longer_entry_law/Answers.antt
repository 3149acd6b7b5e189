use Rattle.change_model.proofs.EntriesGrow.{longer_entry}
use Rattle.change_model.proofs.entry_law.longer_entry_law.Goals as goal

pub returns : goal.returns
returns c = longer_entry
