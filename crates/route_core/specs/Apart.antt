-- Private: what a test of two locators answers.
use Rattle.std.specs.Prelude.{◌≡◌, Bool, true, false}
use Rattle.place_core.specs.declared.shards.Locator.{Locator}
use Rattle.route_core.specs.Routes.{AreOverlapping}

-- a test answers whether two locators are apart
pub record TellsApart (held learned : Locator) (answer : Bool) : Type 0 where
  pub apart : answer ≡ true → ¬ AreOverlapping held learned
  pub over : answer ≡ false → AreOverlapping held learned
