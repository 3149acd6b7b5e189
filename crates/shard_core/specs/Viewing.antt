-- Private: what is known of a shard's windows, and what its parts do.
use Rattle.std.specs.Prelude.{◌≡◌, ◌↔◌, ◌+◌, ℕ, List, [], ◌∷◌, ◌++◌}
use Rattle.base_core.specs.Lists.{Has}
use Rattle.fed_bytes.specs.declared.span.Span.{Span}
use Rattle.fed_bytes.specs.Keys.{IsIn}
use Rattle.window_core.specs.declared.live.LiveWindow.{LiveWindow}
use Rattle.window_core.specs.contracts.live.LiveWindowWindow.TheImpl as live_window
use Rattle.row_core.specs.declared.rows.Row.{Row}
use Rattle.row_core.specs.Rows.{StandInOrder}
use Rattle.change_model.specs.Windows.{WindowData}
use Rattle.shard_core.specs.declared.window.AnyWindow.{AnyWindow}
use Rattle.shard_core.specs.contracts.window.AnyWindowWindow.TheImpl as any_window

abbrev pub data_of : AnyWindow → WindowData
data_of window = record {
  span = (any_window.ghosts).span window;
  from = (any_window.ghosts).from window;
  upto = (any_window.ghosts).upto window;
  floor = (any_window.ghosts).floor window;
  rows = (any_window.ghosts).rows window;
}

abbrev pub live_data : LiveWindow → WindowData
live_data window = record {
  span = (live_window.ghosts).span window;
  from = (live_window.ghosts).from window;
  upto = (live_window.ghosts).upto window;
  floor = (live_window.ghosts).floor window;
  rows = (live_window.ghosts).rows window;
}

-- the last window ends one before the time
abbrev pub EndBefore : ℕ → List AnyWindow → Type 0
EndBefore time windows = (older : List AnyWindow) (last : AnyWindow) → windows ≡ older ++ last ∷ [] → time ≡ (any_window.ghosts).upto last + 1

-- the rows whose keys are in the span, in order
pub record IsPartIn (span : Span) (rows part : List Row) : Type 0 where
  pub in_order : StandInOrder part
  pub has : (row : Row) → (Has part row ↔ (Has rows row × IsIn span row.key))
