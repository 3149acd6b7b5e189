use Rattle.std.proofs.Common.{◌≡◌, ◌-◌, rules}
use Rattle.std.specs.Vec.{vec_len, vec_capacity}
use Rattle.record_log.specs.declared.extent.Stage.TheVariants.{Settled}
use Rattle.record_log.proofs.Extents.{tied_more}
use Rattle.record_log.proofs.extent.Extent.add.Goals as goal

pub invariant_of-self-2 : goal.invariant_of-self-2
invariant_of-self-2 c =
    let places = c.self.inside.places in
    let room = vec_capacity c.push.new.self - vec_len c.push.new.self in
    let settled : c.self.inside.stage ≡ Settled = search rules in
    let fits = c.requires.fits in
    let last = c.self.invariant.last in
    rw (c.in_ok-push.ensures.items, c.from.ensures, settled)
    (tied_more places.items c.self.inside.end c.args.size (vec_capacity places - vec_len places) c.self.inside.stage room c.self.invariant (search rules))
