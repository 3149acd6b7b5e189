-- A route: what a session knows of where keys are.
use Rattle.std.specs.Prelude.{◌≡◌, ◌↔◌, ◌⊎◌, ℕ, List}
use Rattle.base_core.specs.Lists.{Has}
use Rattle.fed_bytes.specs.Keys.{IsIn}
use Rattle.row_core.specs.declared.rows.Index.{Index}
use Rattle.place_board.specs.Tokens.{Noted}
use Rattle.place_core.specs.declared.shards.Locator.{Locator}
use Rattle.place_core.specs.Shown.{IsShownBy}
use Rattle.place_core.specs.Places.{HasKey, StandBy, LineComesBefore, located}

-- a route: its note, and the locators that it holds
pub record Routing : Type 0 where
  pub note : Noted
  pub locators : List Locator

-- one locator comes before another: its index does, or its left end in the same index
abbrev pub LocatorComesBefore : Locator → Locator → Type 0
LocatorComesBefore one other = LineComesBefore (located one) (located other)

-- what is so of every route
pub record IsRoute (r : Routing) : Type 0 where
  -- its note knows each locator's number, with the locator's service, index and span
  pub knows : (l : Locator) → Has r.locators l → IsShownBy r.note l.number l.service l.index l.span
  -- no key is in two locators of one index
  pub apart : (index : Index) (key : List ℕ) (one other : Locator) → Has r.locators one → Has r.locators other → HasKey (located one) index key → HasKey (located other) index key → one ≡ other
  -- no locator's span is empty, and they stand in order
  pub left : (l : Locator) → Has r.locators l → IsIn l.span l.span.left
  pub order : StandBy LocatorComesBefore r.locators

-- some key of one index is in both
abbrev pub AreOverlapping : Locator → Locator → Type 0
AreOverlapping one other = (one.index ≡ other.index) × ((key : List ℕ) × IsIn one.span key × IsIn other.span key)

-- the locators afterwards are those before that don't overlap the learned one, and that one unless its span is empty
abbrev pub AreLearned : Locator → List Locator → List Locator → Type 0
AreLearned learned before after = (l : Locator) → (Has after l ↔ ((Has before l × ¬ AreOverlapping l learned) ⊎ ((learned ≡ l) × IsIn learned.span learned.span.left)))

-- the locators afterwards are those before that have another number
abbrev pub AreForgotten : ℕ → List Locator → List Locator → Type 0
AreForgotten number before after = (l : Locator) → (Has after l ↔ (Has before l × ¬ (l.number ≡ number)))
