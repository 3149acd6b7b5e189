use Rattle.std.proofs.Common.{None}
use Rattle.bigfed.specs.Naming.{seat_at}
use Rattle.bigfed.proofs.Known.{made_more}
use Rattle.bigfed.proofs.naming.seated.Goals as goal

pub places-preserved : goal.places-preserved
places-preserved c =
    made_more (seat_at c.args.seats.now) c.args.places.now c.places.place-index None c.places.made.items c.push.new.self.items c.seat_at.result
    c.places-test.true c.places.invariant c.in_ok-push.ensures.items c.seat_at.ensures
