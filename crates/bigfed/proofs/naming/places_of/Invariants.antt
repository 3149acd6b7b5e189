use Rattle.std.proofs.Common.{take}
use Rattle.std.specs.List.{AllZip}
use Rattle.bigfed.specs.Naming.{IsPlaceIn}
use Rattle.bigfed.proofs.naming.places_of.Given as goal

abbrev pub invariant-ids : goal.invariant-ids
invariant-ids l = AllZip (IsPlaceIn l.distinct.keys) (take l.id-index l.ids) l.places.items
