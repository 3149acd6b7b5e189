use Rattle.std.proofs.Common.{ap, sym, ◌∙◌, subst, arith}
use Rattle.place_board.specs.declared.view.Known.{Known}
use Rattle.place_board.specs.Steps.{Bears}
use Rattle.place_board.proofs.Asking.{bear_asked}
use Rattle.place_board.proofs.board.PlaceBoard.bear.Goals as goal

pub store-requires : goal.store-requires
store-requires g c =
    let words = c.self.invariant in
    let n = c.requires.next in
    let told = c.requires.told in
    (c.requires.board ∙ sym c.self.view_is, omega (arith, n.1), bear_asked _ _ _ g.B.Told.known c.args.number c.requires.seat.0 c.requires.seat.1 (ap (λ (k : Known). k.number) told) (ap (λ (k : Known). k.service) told) n.0 n.1 n.2)

pub returns-clause-bears : goal.returns-clause-bears
returns-clause-bears g c = subst (λ (k : Known). Bears k c.args.seat.now.me c.store.new.seat.me) c.requires.told c.store.ensures.2
