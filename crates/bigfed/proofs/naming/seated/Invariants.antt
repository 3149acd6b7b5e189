use Rattle.std.proofs.Common.{◌≡◌, map, take}
use Rattle.bigfed.specs.Naming.{seat_at}
use Rattle.bigfed.proofs.naming.seated.Given as goal

abbrev pub invariant-places : goal.invariant-places
invariant-places l = l.made.items ≡ map (seat_at l.seats) (take l.place-index l.places)
