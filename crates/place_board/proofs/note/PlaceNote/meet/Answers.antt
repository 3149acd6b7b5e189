use Rattle.place_board.proofs.Becoming.{notes, agreed}
use Rattle.place_board.proofs.note.PlaceNote.meet.Goals as goal

pub invariant_of-self : goal.invariant_of-self
invariant_of-self c =
    let i = c.self.invariant in
    let b = agreed c.self.inside.seat.me _ _ _ c.join.ensures.joined c.agree.ensures.agrees in
    let k = notes c.agree.new.seat.table_id c.self.inside.seat.me _ _ b i.0 (record { live = i.1.live; service = i.1.service; list = i.1.list }) in
    (k.alone, k.noting, k.sound)

pub returns-clause-sound : goal.returns-clause-sound
returns-clause-sound c =
    let i = c.self.invariant in
    let b = agreed c.self.inside.seat.me _ _ _ c.join.ensures.joined c.agree.ensures.agrees in
    let k = notes c.agree.new.seat.table_id c.self.inside.seat.me _ _ b i.0 (record { live = i.1.live; service = i.1.service; list = i.1.list }) in
    k.sound
