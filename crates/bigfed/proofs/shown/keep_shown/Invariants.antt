use Rattle.std.proofs.Common.{take}
use Rattle.base_core.specs.Lists.{Has, AreDistinct}
use Rattle.triple_keys.specs.declared.key.Ids.{Ids}
use Rattle.bigfed.specs.Indexed.{IsShownIn}
use Rattle.bigfed.specs.Shown.{IsKept}
use Rattle.bigfed.proofs.Collected.{Collected}
use Rattle.bigfed.proofs.shown.keep_shown.Given as goal

abbrev pub invariant-rows : goal.invariant-rows
invariant-rows l = record {
  collected : Collected (IsKept l.order l.span) (take l.row-index l.row-items) l.fn.found.items l.found.items;
  distinct : AreDistinct l.fn.found.items → ((ids : Ids) → Has l.fn.found.items ids → ¬ IsShownIn l.fn.rows l.order l.span ids) → AreDistinct l.found.items;
}
