use Rattle.change_model.proofs.EntriesGrow.{some_entries}
use Rattle.change_model.proofs.entry_law.some_entries_law.Goals as goal

pub returns : goal.returns
returns c = some_entries
