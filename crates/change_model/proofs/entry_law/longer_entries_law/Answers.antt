use Rattle.change_model.proofs.EntriesGrow.{longer_entries}
use Rattle.change_model.proofs.entry_law.longer_entries_law.Goals as goal

pub returns : goal.returns
returns c = longer_entries
