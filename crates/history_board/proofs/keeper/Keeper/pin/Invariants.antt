use Rattle.std.proofs.Common.{[]}
use Rattle.history_board.proofs.keeper.Keeper.pin.Given as goal

-- the step is told of the pin's number and its time
abbrev pub ghosts-give_pin : goal.ghosts-give_pin
ghosts-give_pin g a = record { entries = []; session = 0; number = a.number; time = a.time }
