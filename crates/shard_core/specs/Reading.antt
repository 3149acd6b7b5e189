-- What is read from a shard.
use Rattle.std.specs.Prelude.{◌≡◌, ◌↔◌, ℕ, ◌≤◌, List, Option, Some, Result, Err}
use Rattle.base_core.specs.Lists.{Has}
use Rattle.base_core.specs.Faults.{HasRisen}
use Rattle.fed_bytes.specs.declared.span.Span.{Span}
use Rattle.fed_bytes.specs.Keys.{IsBeforeEnd, IsIn}
use Rattle.row_core.specs.declared.rows.Row.{Row}
use Rattle.row_core.specs.declared.rows.Chunk.{Chunk}
use Rattle.window_core.specs.declared.fault.WindowFault.TheVariants.{Failed}
use Rattle.row_core.specs.Rows.{StandInOrder}
use Rattle.window_core.specs.Windows.{IsNoDamage}
use Rattle.window_merge.specs.Together.{rows_of_all}
use Rattle.change_model.specs.History.{History}
use Rattle.change_model.specs.IndexRows.{IsLastRow}
use Rattle.change_model.specs.Laws.{IsValue}
use Rattle.shard_core.specs.declared.fault.ShardFault.{ShardFault}
use Rattle.shard_core.specs.declared.fault.ShardFault.TheVariants.{Behind, Window}
use Rattle.shard_core.specs.Shards.{ShardData}

-- the rows of all its windows
abbrev pub shard_rows : ShardData → List Row
shard_rows shard = rows_of_all (λ window. window.rows) shard.windows

-- the key is in the span that was asked for and in the shard's, and before the next one, if there is one
pub record IsAnswered (shard : ShardData) (span : Span) (next : Option (List ℕ)) (key : List ℕ) : Type 0 where
  pub asked : IsIn span key
  pub own : IsIn shard.span key
  pub before : IsBeforeEnd key next

-- by the history the row is the last of its key at or before the time, and it is a value
abbrev pub IsLastValue : History → ShardData → ℕ → Row → Type 0
IsLastValue history shard time row = IsLastRow shard.index history row.key time (Some row) × IsValue (Some row)

-- of the keys before the next one in both spans, the chunk has exactly the history's last rows that are values, by key
pub record AreLastValues (history : History) (shard : ShardData) (span : Span) (time : ℕ) (chunk : Chunk) : Type 0 where
  pub in_order : StandInOrder chunk.rows
  pub exactly : (row : Row) → (Has chunk.rows row ↔ (IsLastValue history shard time row × IsAnswered shard span chunk.next row.key))

abbrev pub IsNoShardDamage : ShardFault → Type 0
IsNoShardDamage (Behind upto) = Unit {0}
IsNoShardDamage (Window fault) = IsNoDamage fault

-- the count of faults doesn't fall, and a fault of the device is answered only where it has risen
pub record IsShardCounted {T : Type 0} (before now : ℕ) (result : Result T ShardFault) : Type 0 where
  pub later : before ≤ now
  pub cause : result ≡ Err (Window Failed) → HasRisen before now
