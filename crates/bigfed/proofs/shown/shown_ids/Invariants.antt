use Rattle.std.proofs.Common.{◌≤◌}
use Rattle.base_core.specs.Lists.{AreDistinct}
use Rattle.bigfed.specs.Indexed.{rows_in}
use Rattle.bigfed.proofs.Chunks.{AreShown, IsFromLeft, left_from}
use Rattle.bigfed.proofs.shown.shown_ids.Given as goal

-- what is shown before the key that the loop goes on from was found
abbrev pub invariant-chunks : goal.invariant-chunks
invariant-chunks l = record {
  shown : AreShown (rows_in l.window) l.order l.span l.next l.found.items;
  left : IsFromLeft l.span l.next;
  distinct : AreDistinct l.found.items;
  some : 1 ≤ l.most;
}

abbrev pub decreases-chunks : goal.decreases-chunks
decreases-chunks l = left_from (rows_in l.window) l.next
