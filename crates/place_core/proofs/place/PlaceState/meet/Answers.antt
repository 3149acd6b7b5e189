use Rattle.std.proofs.Common.{sym, subst}
use Rattle.place_board.specs.Tokens.{IsSoundList}
use Rattle.place_core.specs.Places.{Placing, IsPlace}
use Rattle.place_core.proofs.Keeping.{place_met}
use Rattle.place_core.proofs.place.PlaceState.meet.Goals as goal

pub invariant_of-self : goal.invariant_of-self
invariant_of-self c =
    let p : Placing = record { list = c.self.inside.seat; lines = c.self.inside.lines.items } in
    subst (λ l. IsPlace (record { list = l; lines = c.self.inside.lines.items })) (sym c.meet.ensures.met)
    (place_met p c.args.note c.self.invariant (subst IsSoundList c.meet.ensures.met c.meet.ensures.sound))

pub returns-clause-place : goal.returns-clause-place
returns-clause-place c =
    let p : Placing = record { list = c.self.inside.seat; lines = c.self.inside.lines.items } in
    subst (λ l. IsPlace (record { list = l; lines = c.self.inside.lines.items })) (sym c.meet.ensures.met)
    (place_met p c.args.note c.self.invariant (subst IsSoundList c.meet.ensures.met c.meet.ensures.sound))
