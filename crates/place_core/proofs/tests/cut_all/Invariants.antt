use Rattle.std.proofs.Common.{◌≡◌}
use Rattle.place_core.proofs.tests.cut_all.Given as goal

abbrev pub invariant-cuts : goal.invariant-cuts
invariant-cuts l = record { board : l.service.noted.board ≡ l.place.list.noted.board; own : l.service.service ≡ 1 }
