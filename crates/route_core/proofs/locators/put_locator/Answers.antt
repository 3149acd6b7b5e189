use Rattle.std.proofs.Common.{◌≡◌, ◌⊎◌, true, false, List, take, drop, Result, IsOk, is_ok, if◌then◌else◌, sym, subst}
use Rattle.std.specs.Prelude.{Ok, Err}
use Rattle.base_core.specs.Lists.{Has}
use Rattle.fed_bytes.proofs.Orders.{no_answer}
use Rattle.place_core.specs.declared.shards.Locator.{Locator}
use Rattle.place_core.specs.Shown.{place_of}
use Rattle.place_core.specs.Places.{StandBy, located}
use Rattle.route_core.specs.Routes.{LocatorComesBefore}
use Rattle.place_core.specs.Lines.{up_to}
use Rattle.place_core.proofs.Standing.{has_put, has_front, stand_put}
use Rattle.place_core.proofs.Orders.{before_by, behind_by}
use Rattle.route_core.proofs.locators.put_locator.Goals as goal

-- what an Ok leaves
after_ok : {T E A : Type 0} (r : Result T E) (P : A → Type 0) (ok err : A) → IsOk r → P ok → P (if is_ok r then ok else err)
after_ok (Ok x) P ok err is p = p
after_ok (Err e) P ok err is p = no_answer is

pub returns-clause-has : goal.returns-clause-has
returns-clause-has c = λ other.
    let xs = c.args.locators.now.items in
    let P : List Locator → Type 0 = λ ys. (Has ys other → Has xs other ⊎ (c.args.locator ≡ other)) × (Has xs other ⊎ (c.args.locator ≡ other) → Has ys other) in
    subst P (sym c.insert.ensures.items) (after_ok c.insert.result P _ _ (c.insert.ensures.succeeds c.requires.room) (has_put c.first_behind-at.result xs c.args.locator other))

pub returns-clause-order : goal.returns-clause-order
returns-clause-order c =
    let xs = c.args.locators.now.items in
    let e = c.first_behind-at.ensures in
    let P : List Locator → Type 0 = λ ys. StandBy LocatorComesBefore ys in
    let front : (line : Locator) → Has (take c.first_behind-at.result xs) line → up_to (place_of c.args.locator.index) c.args.locator.span.left (located line) ≡ true =
    λ line h. subst (λ key. up_to (place_of c.args.locator.index) key (located line) ≡ true) c.bytes.ensures (e.front line (subst (λ ys. Has (take c.first_behind-at.result ys) line) (sym c.as_slice.ensures.value) h)) in
    let back : (line : Locator) → Has (drop c.first_behind-at.result xs) line → up_to (place_of c.args.locator.index) c.args.locator.span.left (located line) ≡ false =
    λ line h. subst (λ key. up_to (place_of c.args.locator.index) key (located line) ≡ false) c.bytes.ensures (e.back line (subst (λ ys. Has (drop c.first_behind-at.result ys) line) (sym c.as_slice.ensures.value) h)) in
    let put = stand_put LocatorComesBefore c.first_behind-at.result xs c.args.locator c.requires.order
    (λ line h. before_by (located c.args.locator) (located line) (c.requires.apart line (has_front c.first_behind-at.result xs line h)) (front line h))
    (λ line h. behind_by (located c.args.locator) (located line) (back line h)) in
    subst P (sym c.insert.ensures.items) (after_ok c.insert.result P _ _ (c.insert.ensures.succeeds c.requires.room) put)
