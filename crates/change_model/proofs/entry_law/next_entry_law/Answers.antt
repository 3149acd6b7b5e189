use Rattle.change_model.proofs.EntriesGrow.{next_entry}
use Rattle.change_model.proofs.entry_law.next_entry_law.Goals as goal

pub returns : goal.returns
returns c = next_entry
