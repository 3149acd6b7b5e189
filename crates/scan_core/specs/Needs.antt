-- Where a scan goes on.
use Rattle.std.specs.Prelude.{◌≡◌, ℕ, List, true, false, Some, None}
use Rattle.base_core.specs.Lists.{Has}
use Rattle.place_core.specs.declared.shards.Locator.{Locator}
use Rattle.place_core.specs.Places.{HasKey, located}
use Rattle.scan_core.specs.declared.need.Need.{Need}
use Rattle.scan_core.specs.declared.need.Need.TheVariants.{Alone, Commit, Place, Service, Done}
use Rattle.scan_core.specs.Scans.{Scanning}

-- It is done; or a shard was behind and wasn't fed yet; or one of the held locators has the first key that is left, and is of this service;
-- or none has it.
abbrev pub Needs : Scanning → List Locator → Need → Type 0
Needs s held Alone = ⊥
Needs s held Done = s.done ≡ true
Needs s held Commit = (s.done ≡ false) × ((upto : ℕ) × (s.behind ≡ Some upto))
Needs s held (Service service) =
    (s.done ≡ false) × (s.behind ≡ None) × ((l : Locator) × Has held l × HasKey (located l) s.index s.rest.left × (l.service ≡ service))
Needs s held Place = (s.done ≡ false) × (s.behind ≡ None) × ((l : Locator) → Has held l → ¬ HasKey (located l) s.index s.rest.left)
