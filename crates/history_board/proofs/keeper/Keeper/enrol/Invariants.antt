use Rattle.std.proofs.Common.{[]}
use Rattle.history_board.proofs.keeper.Keeper.enrol.Given as goal

-- the step is told of the session
abbrev pub ghosts-enrol : goal.ghosts-enrol
ghosts-enrol g a = record { entries = []; session = a.session; number = 0; time = 0 }
