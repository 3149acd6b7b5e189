use Rattle.std.proofs.Common.{◌≡◌, ◌≤◌, take}
use Rattle.window_merge.proofs.Stepping.{IsReadOfAll}
use Rattle.window_merge.proofs.chunk.merged_chunk.Given as goal

-- the chunk so far is that of the windows so far, and the device tells what it did
abbrev pub invariant-windows : goal.invariant-windows
invariant-windows g l =
    (g.D.Disk.told l.disk ≡ g.D.Disk.told l.fn.disk)
    × (g.D.Disk.fault_count l.fn.disk ≤ g.D.Disk.fault_count l.disk)
    × IsReadOfAll (record {
      span_of = g.W.Window.span;
      from_of = g.W.Window.from;
      upto_of = g.W.Window.upto;
      rows_of = g.W.Window.rows;
      stands = λ window. g.W.Window.stands window (g.D.Disk.told l.fn.disk);
      kept = λ window. g.W.Window.kept window (g.D.Disk.told l.fn.disk);
    }) l.windows (take l.window-index l.windows) l.key l.most l.merged
