use Rattle.std.proofs.Common.{sym, ◌∙◌, ap, subst}
use Rattle.place_board.specs.Tokens.{Noted}
use Rattle.route_core.specs.Routes.{Routing, IsRoute}
use Rattle.route_core.proofs.Routing.{route_met}
use Rattle.route_core.proofs.route.Route.meet.Goals as goal

pub invariant_of-self : goal.invariant_of-self
invariant_of-self c =
    let r : Routing = record { note = c.self.inside.note; locators = c.self.inside.locators.items } in (
      ap (λ (n : Noted). n.board) c.meet.ensures.met ∙ c.self.invariant.0,
      subst (λ n. IsRoute (record { note = n; locators = c.self.inside.locators.items })) (sym c.meet.ensures.met) (route_met r c.args.note c.self.invariant.1),
    )

pub returns-clause-route : goal.returns-clause-route
returns-clause-route c =
    let r : Routing = record { note = c.self.inside.note; locators = c.self.inside.locators.items } in
    subst (λ n. IsRoute (record { note = n; locators = c.self.inside.locators.items })) (sym c.meet.ensures.met) (route_met r c.args.note c.self.invariant.1)
