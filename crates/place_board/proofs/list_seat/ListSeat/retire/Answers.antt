use Rattle.std.proofs.Common.{◌∙◌}
use Rattle.place_board.proofs.Becoming.{lists}
use Rattle.place_board.proofs.list_seat.ListSeat.retire.Goals as goal

pub invariant_of-self : goal.invariant_of-self
invariant_of-self c =
    let i = c.self.invariant in
    let k = lists c.self.inside.services c.retire.new.seat.table_id c.self.inside.seat.me _ _ c.retire.ensures.retires i.1 (record { live = i.2.live; service = i.2.service; list = i.2.list }) i.3 in
    (c.retire.ensures.board ∙ c.deref.ensures, k.alone, k.listing, k.services_are, k.sound)

pub returns-clause-sound : goal.returns-clause-sound
returns-clause-sound c =
    let i = c.self.invariant in
    let k = lists c.self.inside.services c.retire.new.seat.table_id c.self.inside.seat.me _ _ c.retire.ensures.retires i.1 (record { live = i.2.live; service = i.2.service; list = i.2.list }) i.3 in
    k.sound
