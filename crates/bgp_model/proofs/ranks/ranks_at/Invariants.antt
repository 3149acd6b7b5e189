use Rattle.std.proofs.Common.{◌≡◌, map, take}
use Rattle.bgp_model.specs.Table.{rank_at}
use Rattle.bgp_model.proofs.ranks.ranks_at.Given as goal

abbrev pub invariant-places : goal.invariant-places
invariant-places l = l.made.items ≡ map (rank_at l.ranks) (take l.place-index l.places)
