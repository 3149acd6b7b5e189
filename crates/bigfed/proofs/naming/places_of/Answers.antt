use Rattle.std.proofs.Common.{None}
use Rattle.bigfed.proofs.Seats.{places_turn}
use Rattle.bigfed.proofs.naming.places_of.Goals as goal

pub ids-preserved : goal.ids-preserved
ids-preserved c =
    places_turn c.ids.distinct.keys c.place_of.new.distinct.keys c.args.ids.now c.ids.id-index None c.ids.places.items c.push.new.self.items c.in_ok-place_of.field-0
    c.ids-test.true c.in_ok-place_of.ensures.grown c.ids.invariant c.in_ok-place_of.ensures.place c.in_ok-push.ensures.items
