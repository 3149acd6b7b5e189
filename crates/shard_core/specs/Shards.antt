-- Shards: the windows of an index over one span, and when they stand for a history.
use Rattle.std.specs.Prelude.{◌≡◌, ℕ, suc, ◌≤◌, List, [], ◌∷◌, ◌++◌}
use Rattle.std.specs.List.{AllByRecursion}
use Rattle.fed_bytes.specs.declared.span.Span.{Span}
use Rattle.row_core.specs.declared.rows.Index.{Index}
use Rattle.row_core.specs.declared.rows.Row.{Row}
use Rattle.row_core.specs.Rows.{IsWindow}
use Rattle.change_model.specs.History.{History}
use Rattle.change_model.specs.Windows.{WindowData, WindowStandsFor}
use Rattle.change_model.specs.WindowLaws.{AreAdjacent, IsNextWindow}

-- what is known of a shard
pub record ShardData : Type 0 where
  pub index : Index
  pub span : Span
  pub upto : ℕ
  pub windows : List WindowData

-- the window is one, over the span
pub record IsOver (span : Span) (window : WindowData) : Type 0 where
  pub window_is : IsWindow window.span window.from window.upto window.rows
  pub span_is : window.span ≡ span

-- the windows of a shard go from the time 0 to its own, and each has its span
pub record IsShard (shard : ShardData) : Type 0 where
  pub adjacent : AreAdjacent 0 shard.windows shard.upto
  pub over : AllByRecursion (IsOver shard.span) shard.windows

-- no window has a floor above this one
abbrev pub HaveFloorsUpTo : ℕ → ShardData → Type 0
HaveFloorsUpTo floor shard = AllByRecursion (λ window. window.floor ≤ floor) shard.windows

-- The shard stands for what a note has seen: a history and a floor. Its windows go from the time 0 to its own, each has its span and stands
-- for the history, and none has a floor above.
pub record ShardStandsFor (history : History) (floor : ℕ) (shard : ShardData) : Type 0 where
  pub shard_is : IsShard shard
  pub stand : AllByRecursion (WindowStandsFor shard.index history) shard.windows
  pub floors : HaveFloorsUpTo floor shard

-- a window without rows at the time 0
abbrev pub no_rows_yet : Span → WindowData
no_rows_yet span = record { span = span; from = 0; upto = 0; floor = 0; rows = [] }

-- all windows are as they were but the last, which has the rows of the next time
pub record HaveNextLast (added : List Row) (windows next : List WindowData) : Type 0 where
  pub older : List WindowData
  pub last : WindowData
  pub filled : WindowData
  pub were : windows ≡ older ++ last ∷ []
  pub are : next ≡ older ++ filled ∷ []
  pub is_next : IsNextWindow last added filled

-- the shard with the rows of the next time
pub record IsNextShard (added : List Row) (shard next : ShardData) : Type 0 where
  pub index : next.index ≡ shard.index
  pub span : next.span ≡ shard.span
  pub upto : next.upto ≡ suc shard.upto
  pub windows : HaveNextLast added shard.windows next.windows

-- Later changes leave a shard as good as it was.
abbrev pub KeptHistoryLaw : Type 0
KeptHistoryLaw = (history more : History) (floor : ℕ) (shard : ShardData) → ShardStandsFor history floor shard → ShardStandsFor (history ++ more) floor shard

-- A floor may be raised.
abbrev pub KeptFloorLaw : Type 0
KeptFloorLaw = (history : History) (floor higher : ℕ) (shard : ShardData) → ShardStandsFor history floor shard → floor ≤ higher → ShardStandsFor history higher shard
