use Rattle.bgp_model.proofs.Ranking.{Ranked}
use Rattle.bgp_model.proofs.ranks.ranks_of.Given as goal

abbrev pub invariant-numbers : goal.invariant-numbers
invariant-numbers l = Ranked l.cells l.number-items l.ranks.items l.number-index l.rank l.last
