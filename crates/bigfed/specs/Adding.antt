-- Private: the rows of a change that go into the indexes.
use Rattle.std.specs.Prelude.{◌≡◌, ℕ, ◌+◌, List}
use Rattle.row_core.specs.declared.rows.Row.{Row}
use Rattle.window_core.specs.declared.live.LiveWindow.{LiveWindow}
use Rattle.row_core.specs.Rows.{AreChanges}
use Rattle.change_model.specs.declared.entry.Entry.{Entry}
use Rattle.bigfed.specs.declared.indexes.Indexes.{Indexes}
use Rattle.bigfed.specs.Indexed.{upto_of}

-- the rows change the window at the next time
pub record AreNextOf (window : LiveWindow) (time : ℕ) (rows : List Row) : Type 0 where
  pub next : time ≡ upto_of window + 1
  pub changes : AreChanges time rows

-- the entry's rows change each of the windows at the next time
pub record IsNextOf (indexes : Indexes) (entry : Entry) : Type 0 where
  pub t2i : AreNextOf indexes.t2i entry.time entry.t2i
  pub i2t : AreNextOf indexes.i2t entry.time entry.i2t
  pub spo : AreNextOf indexes.spo entry.time entry.spo
  pub pos : AreNextOf indexes.pos entry.time entry.pos
  pub osp : AreNextOf indexes.osp entry.time entry.osp
