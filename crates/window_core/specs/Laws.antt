-- Private: the law of windows, of what one in memory holds.
use Rattle.window_core.specs.declared.held.Held.{Held}
use Rattle.window_core.specs.Runs.{merged}
use Rattle.row_core.specs.Rows.{IsWindow}

pub held_is : (held : Held) → IsWindow held.span held.from held.upto (merged held.runs.items)
held_is held = record { in_order = held.ordered; within = held.within; times = held.times }
