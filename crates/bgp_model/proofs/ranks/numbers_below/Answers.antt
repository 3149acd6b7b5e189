use Rattle.bgp_model.proofs.Placed.{range_pushed}
use Rattle.bgp_model.proofs.ranks.numbers_below.Goals as goal

pub numbers-preserved : goal.numbers-preserved
numbers-preserved c = range_pushed c.numbers.numbers.items _ c.numbers.number c.numbers.invariant c.in_ok-push.ensures.items
