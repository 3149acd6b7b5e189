use Rattle.std.proofs.Common.{rules, tests}
use Rattle.route_core.specs.Routes.{LocatorComesBefore, AreOverlapping}
use Rattle.route_core.specs.Apart.{TellsApart}
use Rattle.route_core.proofs.Filtered.{has_filtered, stand_filtered}
use Rattle.route_core.proofs.locators.drop_overlapping.Goals as goal

pub returns-clause-has : goal.returns-clause-has
returns-clause-has c = has_filtered _ (λ l. ¬ AreOverlapping l c.args.learned.now) (λ l. AreOverlapping l c.args.learned.now) (λ l lost kept. kept lost) _ (λ l b f k. let told : TellsApart l c.args.learned.now b = search (rules, tests) in (told.apart, told.over, search (rules, tests))) _ _ c.retain.ensures.filtered

pub returns-clause-order : goal.returns-clause-order
returns-clause-order c = stand_filtered LocatorComesBefore _ _ _ _ c.retain.ensures.filtered c.requires.order
