use Rattle.std.proofs.Common.{◌≡◌, ◌-◌, ◌≤◌, length, take, drop, true, false, refl, sym, ◌∙◌, subst, arith}
use Rattle.base_core.specs.Lists.{Has}
use Rattle.place_core.specs.declared.shards.Locator.{Locator}
use Rattle.place_core.specs.Shown.{place_of}
use Rattle.place_core.specs.Places.{HasKey, located}
use Rattle.place_core.specs.Lines.{up_to}
use Rattle.place_core.proofs.Standing.{has_at}
use Rattle.route_core.specs.Routes.{Routing}
use Rattle.route_core.proofs.Routing.{found_last}
use Rattle.route_core.proofs.route.Route.known.Goals as goal

pub returns-then-has_key-clause-some : goal.returns-then-has_key-clause-some
returns-then-has_key-clause-some c =
    let r : Routing = record { note = c.self.inside.note; locators = c.self.inside.locators.items } in
    let found = c.index-found.result.now in
    let bound = subst (λ ls. c.first_behind-behind.result ≤ length ls) c.as_slice.ensures.value c.first_behind-behind.ensures.bound in
    let some = c.if-behind-eq0.false in
    let has = subst (λ (l : Locator). Has r.locators l) (sym c.index-found.ensures) (has_at r.locators (c.first_behind-behind.result - 1) found (omega arith)) in
    (subst (λ (q : Routing). Has q.locators found) c.self.view_is has, c.if-has_key.ensures.yes refl)

pub returns-else-has_key-clause-none : goal.returns-else-has_key-clause-none
returns-else-has_key-clause-none c = λ none l has holds.
    let r : Routing = record { note = c.self.inside.note; locators = c.self.inside.locators.items } in
    let e = c.first_behind-behind.ensures in
    let behind = c.first_behind-behind.result in
    let bound = subst (λ ls. behind ≤ length ls) c.as_slice.ensures.value e.bound in
    let front = subst (λ ls. (x : Locator) → Has (take behind ls) x → up_to (place_of c.args.index) c.args.key.now (located x) ≡ true) c.as_slice.ensures.value e.front in
    let back = subst (λ ls. (x : Locator) → Has (drop behind ls) x → up_to (place_of c.args.index) c.args.key.now (located x) ≡ false) c.as_slice.ensures.value e.back in
    let here = subst (λ (q : Routing). Has q.locators l) (sym c.self.view_is) has in
    let last = found_last r c.self.invariant.1 c.args.index c.args.key.now behind bound front back l here holds in
    let some = last.0 in
    let found = c.index-found.result.now in
    let same = last.1 (behind - 1) found (omega arith) ∙ sym c.index-found.ensures in
    c.if-has_key.ensures.no refl (subst (λ x. HasKey (located x) c.args.index c.args.key.now) same holds)
