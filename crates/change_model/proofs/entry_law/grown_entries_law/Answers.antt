use Rattle.change_model.proofs.EntriesGrow.{grown_entries}
use Rattle.change_model.proofs.entry_law.grown_entries_law.Goals as goal

pub returns : goal.returns
returns c = grown_entries
