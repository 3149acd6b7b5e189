use Rattle.std.specs.Prelude.{option_copied, option_to_list}
use Rattle.history_board.proofs.keeper.Keeper.hand.Given as goal

-- the step is told of the session, and of the entry in doubt
abbrev pub ghosts-hand : goal.ghosts-hand
ghosts-hand g a = record { entries = option_to_list (option_copied a.unsure); session = a.session; number = 0; time = 0 }
