use Rattle.std.proofs.Common.{subst, ◌∙◌, ap, ◌++◌, ◌∷◌, [], Some}
use Rattle.bigfed.specs.Indexed.{IsTermOf}
use Rattle.bigfed.proofs.Seats.{no_seat, one_seat, on_ok}
use Rattle.bigfed.proofs.naming.Named.add.Goals as goal

pub returns-in-None-clause-seats : goal.returns-in-None-clause-seats
returns-in-None-clause-seats c history ids are all =
    let is = subst (IsTermOf history c.args.id) c.in-None.is (c.in_ok-term_of.ensures.term history are) in
    on_ok c.seat.result c.seat.ensures.seats
    (λ put. no_seat history c.args.self.now c.seat.new.self ids c.args.id c.seat.ensures.terms put all is)

pub returns-in_ok-seat-in-Some-clause-seats : goal.returns-in_ok-seat-in-Some-clause-seats
returns-in_ok-seat-in-Some-clause-seats c history ids are all =
    let is = subst (IsTermOf history c.args.id) c.in-Some.is (c.in_ok-term_of.ensures.term history are) in
    let sat = c.in_ok-seat-in-Some.ensures in
    on_ok c.seat-in-Some.result c.seat-in-Some.ensures.seats
    (λ put. one_seat history c.args.self.now c.seat-in-Some.new.self ids c.args.id c.in_ok-seat-in-Some.seat c.in-Some.term sat.seat
    (c.seat-in-Some.ensures.terms ∙ sat.terms) (put ∙ ap (λ seats. seats ++ Some c.in_ok-seat-in-Some.seat ∷ []) sat.seats) all is)
