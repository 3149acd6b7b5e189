use Rattle.change_model.proofs.EntriesGrow.{counted_entries}
use Rattle.change_model.proofs.entry_law.counted_entries_law.Goals as goal

pub returns : goal.returns
returns c = counted_entries
