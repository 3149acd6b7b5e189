use Rattle.std.proofs.Common.{◌≡◌, ℕ, ◌-◌, ◌<◌, ◌≤◌, List, length}
use Rattle.record_log.specs.declared.extent.Stage.TheVariants.{Settled}
use Rattle.record_log.specs.Devices.{ReadsFile}
use Rattle.record_log.specs.Sizes.{total_of}
use Rattle.record_log.proofs.Finding.{SoFar}
use Rattle.record_log.proofs.gates.find_records.Given as goal

abbrev pub invariant-gates : goal.invariant-gates
invariant-gates g l = record {
  within : l.gate < l.size;
  gate : l.gate ≡ total_of l.extent.sizes;
  settled : l.extent.stage ≡ Settled;
  same : g.D.Disk.told l.disk ≡ g.D.Disk.told l.fn.disk;
  later : g.D.Disk.fault_count l.fn.disk ≤ g.D.Disk.fault_count l.disk;
  so_far : (bytes : List ℕ) → ReadsFile (g.D.Disk.told l.fn.disk) l.file bytes → l.size ≡ length bytes → SoFar bytes l.extent.sizes l.gate;
}

abbrev pub decreases-gates : goal.decreases-gates
decreases-gates g l = l.size - l.gate
