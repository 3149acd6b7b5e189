use Rattle.std.proofs.Common.{[], ◌∷◌}
use Rattle.history_board.proofs.keeper.Keeper.commit.Given as goal

-- the step is told of the entry
abbrev pub ghosts-append : goal.ghosts-append
ghosts-append g a = record { entries = a.entry.now ∷ []; session = 0; number = 0; time = 0 }
