use Rattle.std.proofs.Common.{◌≡◌, ◌==◌, ℕ, Bool, true, false, not, arith, rules, tests}
use Rattle.std.proofs.lemmas.Bool.Decides.{nat_tests}
use Rattle.route_core.specs.Routes.{LocatorComesBefore}
use Rattle.route_core.proofs.Filtered.{has_filtered, stand_filtered}
use Rattle.route_core.proofs.locators.drop_number.Goals as goal

says : (b : Bool) (n m : ℕ) → b ≡ not (n == m) → (b ≡ true → ¬ (n ≡ m)) × (b ≡ false → n ≡ m)
says b n m is = (λ e. grind (arith, nat_tests), λ e. grind (arith, nat_tests))

pub returns-clause-has : goal.returns-clause-has
returns-clause-has c = has_filtered _ (λ l. ¬ (l.number ≡ c.args.number)) (λ l. l.number ≡ c.args.number) (λ l lost kept. kept lost) _ (λ l b f k. let said = says b l.number c.args.number (search (rules, tests)) in (said.0, said.1, search (rules, tests))) _ _ c.retain.ensures.filtered

pub returns-clause-order : goal.returns-clause-order
returns-clause-order c = stand_filtered LocatorComesBefore _ _ _ _ c.retain.ensures.filtered c.requires.order
