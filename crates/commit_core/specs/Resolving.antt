-- What the entries of the room say of the history's rows, and what is known of a change that is to be committed.
use Rattle.std.specs.Prelude.{ℕ, ◌≤◌, List, [], ◌∷◌, ◌++◌, length, take, Option, Some, None}
use Rattle.std.specs.List.{AllByRecursion}
use Rattle.term_core.specs.Term.{IsStatement}
use Rattle.change_model.specs.declared.entry.Entry.{Entry}
use Rattle.change_model.specs.declared.entry.Resolved.{Resolved}
use Rattle.change_model.specs.declared.history.Committed.{Committed}
use Rattle.change_model.specs.declared.history.Origin.{Origin}
use Rattle.change_model.specs.History.{History}
use Rattle.change_model.specs.Entries.{IsLastEntry, IsResolved, AreEntriesAfter}
use Rattle.change_model.specs.Laws.{IsWritable}
use Rattle.record_log.specs.Items.{with_one}
use Rattle.commit_core.specs.Rooms.{Room, Waited, change_of}

-- the undecided change's entry has its rows, if it comes in
abbrev pub WaitsWithRows : History → Option Waited → Type 0
WaitsWithRows seen None = Unit {0}
WaitsWithRows seen (Some waited) = IsLastEntry (seen ++ waited.committed ∷ []) waited.entry

-- Each entry has the rows of its change after those before, and so has that of what is undecided. The history may be written,
-- whether or not what is undecided comes in.
pub record HaveRows (seen : History) (entries : List Entry) (waiting : Option Waited) : Type 0 where
  pub entered : AreEntriesAfter seen 0 entries
  pub waits : WaitsWithRows seen waiting
  pub writable : IsWritable seen
  pub writable_with : IsWritable (with_one seen (change_of waiting))

-- the same of a room
abbrev pub HasRows : {D : Type 0} → Room D → Type 0
HasRows room = HaveRows room.seen room.entries room.undecided

-- the change of this resolution, with this origin
abbrev pub committed_by : Resolved → Origin → Committed
committed_by resolved origin = record { change = resolved.change; origin = origin }

-- the change has the ids that its terms had at this time, and its statements are triples whose parts keep their rules
pub record IsResolvedFor (seen : History) (pinned : ℕ) (resolved : Resolved) : Type 0 where
  pub within : pinned ≤ length seen
  pub ids : IsResolved (take pinned seen) resolved
  pub statements : AllByRecursion IsStatement resolved.change.statements
