use Rattle.std.proofs.Common.{◌∙◌}
use Rattle.place_board.proofs.Becoming.{watched}
use Rattle.place_board.proofs.service_seat.ServiceSeat.look.Goals as goal

pub invariant_of-self : goal.invariant_of-self
invariant_of-self c =
    let i = c.self.invariant in
    let k = watched c.self.inside.service c.self.inside.next c.args.n _ c.watch.new.seat.table_id c.self.inside.seat.me _ c.watch.ensures.watches i.1 i.2 i.3 i.4 in
    (c.watch.ensures.board ∙ c.deref.ensures, k.alone, k.serving, k.service_is, k.next_is, k.sound)

pub returns-clause-sound : goal.returns-clause-sound
returns-clause-sound c =
    let i = c.self.invariant in
    let k = watched c.self.inside.service c.self.inside.next c.args.n _ c.watch.new.seat.table_id c.self.inside.seat.me _ c.watch.ensures.watches i.1 i.2 i.3 i.4 in
    k.sound
