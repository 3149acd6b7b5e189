use Rattle.std.proofs.Common.{List, refl, sym, ap, ◌∙◌, subst}
use Rattle.base_core.specs.Lists.{Has}
use Rattle.place_board.specs.Tokens.{Noted, met, copied}
use Rattle.place_core.specs.declared.shards.Locator.{Locator}
use Rattle.place_core.specs.Shown.{IsShown}
use Rattle.route_core.specs.Routes.{Routing, IsRoute, AreLearned, AreOverlapping}
use Rattle.route_core.proofs.Routing.{route_met, route_learned, none_learned}
use Rattle.route_core.proofs.route.Route.learn.Goals as goal

pub invariant_of-self-then-not-has_left_end : goal.invariant_of-self-then-not-has_left_end
invariant_of-self-then-not-has_left_end c =
    let r : Routing = record { note = c.self.inside.note; locators = c.self.inside.locators.items } in
    let told = c.meet.ensures.met ∙ ap (λ n. met c.self.inside.note n) c.copy-shown.ensures.copy in (
      ap (λ (n : Noted). n.board) c.meet.ensures.met ∙ c.self.invariant.0,
      subst (λ ls. IsRoute (record { note = c.meet.new.self; locators = ls })) (sym c.reserve.ensures.items)
          (subst (λ n. IsRoute (record { note = n; locators = c.self.inside.locators.items })) (sym told) (route_met r (copied c.args.locator.note) c.self.invariant.1)),
    )

pub returns-then-not-has_left_end-clause-learned : goal.returns-then-not-has_left_end-clause-learned
returns-then-not-has_left_end-clause-learned c =
    let r : Routing = record { note = c.self.inside.note; locators = c.self.inside.locators.items } in
    let told = c.meet.ensures.met ∙ ap (λ n. met c.self.inside.note n) c.copy-shown.ensures.copy in
    let none = c.if-not-has_left_end.ensures.no refl in
    subst (λ (q : Routing). AreLearned c.args.locator q.locators c.reserve.new.self.items) c.self.view_is
    (subst (λ ls. AreLearned c.args.locator c.self.inside.locators.items ls) (sym c.reserve.ensures.items) (none_learned c.args.locator c.self.inside.locators.items none))

pub returns-then-not-has_left_end-clause-route : goal.returns-then-not-has_left_end-clause-route
returns-then-not-has_left_end-clause-route c =
    let r : Routing = record { note = c.self.inside.note; locators = c.self.inside.locators.items } in
    let told = c.meet.ensures.met ∙ ap (λ n. met c.self.inside.note n) c.copy-shown.ensures.copy in
    subst (λ ls. IsRoute (record { note = c.meet.new.self; locators = ls })) (sym c.reserve.ensures.items)
    (subst (λ n. IsRoute (record { note = n; locators = c.self.inside.locators.items })) (sym told) (route_met r (copied c.args.locator.note) c.self.invariant.1))

pub invariant_of-self-2 : goal.invariant_of-self-2
invariant_of-self-2 c =
    let r : Routing = record { note = c.self.inside.note; locators = c.self.inside.locators.items } in
    let learned : Locator = record c.args.locator { note = c.copy-shown.new.self } in
    let shown = subst (λ (n : Noted). IsShown (record c.args.locator { note = n })) (sym c.copy-shown.ensures.same) c.requires.shown in
    let told = c.meet.ensures.met ∙ ap (λ n. met c.self.inside.note n) (c.copy-shown.ensures.copy ∙ ap copied (sym c.copy-shown.ensures.same)) in
    let mid = c.drop_overlapping.new.locators.items in
    let dropped = subst (λ (ls : List Locator). (l : Locator) → (Has mid l → Has ls l × ¬ AreOverlapping l learned) × (Has ls l × ¬ AreOverlapping l learned → Has mid l)) c.reserve.ensures.items c.drop_overlapping.ensures.has in
    let left = c.if-not-has_left_end.ensures.yes refl in (
      ap (λ (n : Noted). n.board) c.meet.ensures.met ∙ c.self.invariant.0,
      subst (λ n. IsRoute (record { note = n; locators = c.put_locator.new.locators.items })) (sym told)
          (route_learned r c.self.invariant.1 learned mid dropped left c.put_locator.new.locators.items c.put_locator.ensures.has shown c.put_locator.ensures.order),
    )

pub returns-clause-route : goal.returns-clause-route
returns-clause-route c =
    let r : Routing = record { note = c.self.inside.note; locators = c.self.inside.locators.items } in
    let learned : Locator = record c.args.locator { note = c.copy-shown.new.self } in
    let shown = subst (λ (n : Noted). IsShown (record c.args.locator { note = n })) (sym c.copy-shown.ensures.same) c.requires.shown in
    let told = c.meet.ensures.met ∙ ap (λ n. met c.self.inside.note n) (c.copy-shown.ensures.copy ∙ ap copied (sym c.copy-shown.ensures.same)) in
    let mid = c.drop_overlapping.new.locators.items in
    let dropped = subst (λ (ls : List Locator). (l : Locator) → (Has mid l → Has ls l × ¬ AreOverlapping l learned) × (Has ls l × ¬ AreOverlapping l learned → Has mid l)) c.reserve.ensures.items c.drop_overlapping.ensures.has in
    let left = c.if-not-has_left_end.ensures.yes refl in
    subst (λ n. IsRoute (record { note = n; locators = c.put_locator.new.locators.items })) (sym told)
    (route_learned r c.self.invariant.1 learned mid dropped left c.put_locator.new.locators.items c.put_locator.ensures.has shown c.put_locator.ensures.order)
