-- Private: the room's book, which has the entries, the origins and what is undecided.
use Rattle.std.specs.Prelude.{ℕ, List, Option}
use Rattle.std.specs.Arc.{arc_value}
use Rattle.change_model.specs.declared.entry.Entry.{Entry}
use Rattle.change_model.specs.declared.history.Origin.{Origin}
use Rattle.commit_core.specs.declared.book.Waiting.{Waiting}
use Rattle.commit_core.specs.Rooms.{Waited}

-- the book, and for how many changes more it has taken the memory
pub record Booked : Type 0 where
  pub entries : List Entry
  pub origins : List Origin
  pub waiting : Option Waited
  pub room : ℕ

abbrev pub waited : Waiting → Waited
waited waiting = record { committed = waiting.committed; entry = arc_value waiting.entry }
