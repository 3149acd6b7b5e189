-- A shard that stands for a history goes on to do so.
use Rattle.std.proofs.Common.{◌≤◌, ◌++◌, arith}
use Rattle.row_core.proofs.Lists.{each_weaker}
use Rattle.change_model.specs.Windows.{WindowData, WindowStandsFor}
use Rattle.change_model.proofs.WindowSteps.{longer_history_law}
use Rattle.shard_core.specs.Shards.{KeptHistoryLaw, KeptFloorLaw}

pub kept_history_law : KeptHistoryLaw
kept_history_law history more floor shard is = record {
  shard_is = is.shard_is;
  stand = each_weaker (WindowStandsFor shard.index history) (WindowStandsFor shard.index (history ++ more)) shard.windows
      (λ window stands. longer_history_law shard.index history more window stands) is.stand;
  floors = is.floors;
}

pub kept_floor_law : KeptFloorLaw
kept_floor_law history floor higher shard is up = record {
  shard_is = is.shard_is;
  stand = is.stand;
  floors = each_weaker (λ (window : WindowData). window.floor ≤ floor) (λ (window : WindowData). window.floor ≤ higher) shard.windows (λ window low. omega (arith, low, up)) is.floors;
}
