use Rattle.std.proofs.Common.{◌≡◌, ◌-◌, ◌+◌, ◌∷◌, [], Some, ap, ◌∙◌, rules, arith}
use Rattle.record_log.specs.declared.extent.Place.{Place}
use Rattle.std.specs.Vec.{vec_len, vec_capacity}
use Rattle.record_log.specs.Sizes.{undecided_size, kept_in}
use Rattle.record_log.specs.Places.{sizes_at}
use Rattle.std.proofs.lemmas.List.{map-append}
use Rattle.record_log.proofs.Extents.{tied_more, undecided_from, kept_view}
use Rattle.record_log.proofs.extent.Extent.keep.Goals as goal

pub invariant_of-self : goal.invariant_of-self
invariant_of-self c =
    let is : undecided_size c.self.inside.stage ≡ Some c.match-self.size = search rules in
    let room = vec_capacity c.push_reserved.new.self - vec_len c.push_reserved.new.self in
    let fits = (undecided_from c.self.inside.stage c.match-self.size is).0 in
    rw (c.push_reserved.ensures.items, c.from.ensures)
    (tied_more c.self.inside.places.items c.self.inside.end c.match-self.size (vec_capacity c.self.inside.places - vec_len c.self.inside.places) c.self.inside.stage room c.self.invariant
    (omega (arith, fits, c.self.invariant.fits)))

pub returns : goal.returns
returns c =
    let is : undecided_size c.self.inside.stage ≡ Some c.match-self.size = search rules in
    let places = c.self.inside.places in
    let new = c.push_reserved.new.self in
    let more = map-append (λ (place : Place). place.size) places.items (record { start = c.self.inside.end + 5; size = c.match-self.size } ∷ []) in
    kept_view (sizes_at places.items) (sizes_at new.items) c.self.inside.stage c.match-self.size (vec_capacity places - vec_len places) (vec_capacity new - vec_len new) is
    (ap sizes_at c.push_reserved.ensures.items ∙ more) (omega (arith, c.push_reserved.ensures.len, c.push_reserved.ensures.capacity))
    ∙ ap kept_in c.self.view_is
