use Rattle.history_board.proofs.Meeting.{met}
use Rattle.history_board.proofs.pin.Pin.meet.Goals as goal

pub returns-clause-this : goal.returns-clause-this
returns-clause-this g c =
    let m = met g.E.Made.session_of g.E.Made.command_of c.self.inside.seat.me c.join.new.seat.me c.look-self-inside.new.seat.me c.note.inside.seat.me.0 c.look-self-inside.result c.self.invariant.1.keeper c.join.ensures.joined c.look-self-inside.ensures.looks in
    rw (← c.self.view_is) m.this

pub returns-clause-that : goal.returns-clause-that
returns-clause-that g c =
    let m = met g.E.Made.session_of g.E.Made.command_of c.self.inside.seat.me c.join.new.seat.me c.look-self-inside.new.seat.me c.note.inside.seat.me.0 c.look-self-inside.result c.self.invariant.1.keeper c.join.ensures.joined c.look-self-inside.ensures.looks in
    rw (← c.note.view_is) m.that
