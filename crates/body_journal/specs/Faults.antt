-- The faults of a flush.
use Rattle.std.specs.Prelude.{◌≡◌, ℕ}
use Rattle.base_core.specs.Faults.{HasRisen}
use Rattle.record_log.specs.declared.fault.LogFault.{LogFault}
use Rattle.record_log.specs.declared.fault.LogFault.TheVariants as log
use Rattle.body_journal.specs.declared.fault.JournalFault.{JournalFault}
use Rattle.body_journal.specs.declared.fault.JournalFault.TheVariants.{NoMemory, DiskFault, Full}

-- What is answered for a fault of the log, on this disk with this count of faults. Of a log that was mended none but the first three come.
abbrev pub fault_of : LogFault → ℕ → ℕ → JournalFault
fault_of log.NoMemory disk count = NoMemory
fault_of log.Failed disk count = DiskFault disk count
fault_of log.Full disk count = Full disk
fault_of log.NeedsMend disk count = NoMemory
fault_of (log.BadRecord at) disk count = NoMemory

-- The count of faults doesn't fall. A fault of the device names this disk and its count, which has risen, and Full names this disk.
abbrev pub IsCaused : ℕ → ℕ → ℕ → JournalFault → Type 0
IsCaused home before now NoMemory = Unit {0}
IsCaused home before now (DiskFault disk count) = (disk ≡ home) × (count ≡ now) × HasRisen before now
IsCaused home before now (Full disk) = disk ≡ home

-- a fault other than want of memory
abbrev pub IsRefused : JournalFault → Type 0
IsRefused NoMemory = ⊥
IsRefused (DiskFault disk count) = Unit {0}
IsRefused (Full disk) = Unit {0}
