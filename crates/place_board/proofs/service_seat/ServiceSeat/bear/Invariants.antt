use Rattle.std.proofs.Common.{[]}
use Rattle.std.specs.Prelude.{None}
use Rattle.place_board.proofs.service_seat.ServiceSeat.bear.Given as goal

-- the steps are told of the number
abbrev pub ghosts-bear : goal.ghosts-bear
ghosts-bear a = record { known = record { number = a.number; service = a.seat.now.me.0.service; index = a.index; span = a.span.now } }

abbrev pub ghosts-release : goal.ghosts-release
ghosts-release a = record { known = record { number = a.number; service = 0; index = 0; span = record { left = []; right = None } } }
