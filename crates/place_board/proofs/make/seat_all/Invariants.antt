use Rattle.std.proofs.Common.{◌≡◌}
use Rattle.place_board.specs.Tokens.{new_services, new_list}
use Rattle.place_board.proofs.make.seat_all.Given as goal

abbrev pub invariant-seats : goal.invariant-seats
invariant-seats l = record {
  list : l.list ≡ new_list l.list.noted.board l.before;
  seats : l.seats.items ≡ new_services l.list.noted.board l.before;
}
