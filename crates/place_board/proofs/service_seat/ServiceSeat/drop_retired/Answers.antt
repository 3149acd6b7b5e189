use Rattle.std.proofs.Common.{◌∙◌}
use Rattle.place_board.proofs.Becoming.{serves}
use Rattle.place_board.proofs.service_seat.ServiceSeat.drop_retired.Goals as goal

pub invariant_of-self : goal.invariant_of-self
invariant_of-self c =
    let i = c.self.invariant in
    let k = serves c.self.inside.service c.self.inside.next c.give_up.new.seat.table_id c.self.inside.seat.me _ _ c.give_up.ensures.gives_up i.1 (record { live = i.2.live; service = i.2.service; list = i.2.list }) i.3 i.4 in
    (c.give_up.ensures.board ∙ c.deref.ensures, k.alone, k.serving, k.service_is, k.next_is, k.sound)

pub returns-clause-sound : goal.returns-clause-sound
returns-clause-sound c =
    let i = c.self.invariant in
    let k = serves c.self.inside.service c.self.inside.next c.give_up.new.seat.table_id c.self.inside.seat.me _ _ c.give_up.ensures.gives_up i.1 (record { live = i.2.live; service = i.2.service; list = i.2.list }) i.3 i.4 in
    k.sound
