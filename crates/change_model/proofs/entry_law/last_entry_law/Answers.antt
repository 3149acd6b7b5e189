use Rattle.change_model.proofs.EntriesGrow.{last_entry_is}
use Rattle.change_model.proofs.entry_law.last_entry_law.Goals as goal

pub returns : goal.returns
returns c = last_entry_is
