-- A disk in memory, as contracts see it.
use Rattle.std.specs.Prelude.{ℕ}
use Rattle.disk_core.specs.Moments.{Told}
use Rattle.disk_mem.specs.declared.disk.MemoryDisk.{MemoryDisk}
use Rattle.disk_mem.specs.declared.plan.Plan.{Plan}
use Rattle.disk_mem.specs.Contents.{bytes_in}
use Rattle.disk_mem.specs.Replay.{begun, replayed}

-- which of its calls fail, and what it has counted
abbrev pub plan_of : MemoryDisk → Plan
plan_of disk = disk.plan

-- how often memory ran out in a call
abbrev pub starved_of : MemoryDisk → ℕ
starved_of disk = disk.plan.starved

-- how it stands, and how it stood before
abbrev pub told_of : MemoryDisk → Told
told_of disk = replayed (begun (bytes_in disk.first.files)) disk.calls.items
