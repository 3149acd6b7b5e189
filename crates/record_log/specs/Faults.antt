-- Words on the faults of a log.
use Rattle.std.specs.Prelude.{◌≡◌, ◌≤◌, ℕ, List, Result, Err}
use Rattle.base_core.specs.Faults.{HasRisen}
use Rattle.record_log.specs.declared.fault.LogFault.{LogFault}
use Rattle.record_log.specs.declared.fault.LogFault.TheVariants.{NoMemory, Failed, NeedsMend, Full, BadRecord}
use Rattle.record_log.specs.Records.{IsBadLog}

-- the count of faults doesn't fall, and a fault of the device is answered only where it has risen
pub record IsCountedBy {T : Type 0} (before now : ℕ) (result : Result T LogFault) : Type 0 where
  pub later : before ≤ now
  pub cause : result ≡ Err Failed → HasRisen before now

-- memory ran out, or a call of the device failed
abbrev pub IsOutside : LogFault → Type 0
IsOutside NoMemory = Unit {0}
IsOutside Failed = Unit {0}
IsOutside NeedsMend = ⊥
IsOutside Full = ⊥
IsOutside (BadRecord at) = ⊥

-- what a put can answer
abbrev pub IsPutFault : LogFault → Type 0
IsPutFault NoMemory = Unit {0}
IsPutFault Failed = Unit {0}
IsPutFault NeedsMend = Unit {0}
IsPutFault Full = Unit {0}
IsPutFault (BadRecord at) = ⊥

-- what a put of a prepared record can answer
abbrev pub IsPreparedFault : LogFault → Type 0
IsPreparedFault NoMemory = ⊥
IsPreparedFault Failed = Unit {0}
IsPreparedFault NeedsMend = Unit {0}
IsPreparedFault Full = Unit {0}
IsPreparedFault (BadRecord at) = ⊥

-- what a read can answer, and a start
abbrev pub IsReadFault : LogFault → Type 0
IsReadFault NoMemory = Unit {0}
IsReadFault Failed = Unit {0}
IsReadFault NeedsMend = ⊥
IsReadFault Full = ⊥
IsReadFault (BadRecord at) = Unit {0}

-- what a start of a file of these bytes can answer
abbrev pub IsStartFault : List ℕ → LogFault → Type 0
IsStartFault bytes NoMemory = Unit {0}
IsStartFault bytes Failed = Unit {0}
IsStartFault bytes NeedsMend = ⊥
IsStartFault bytes Full = ⊥
IsStartFault bytes (BadRecord at) = IsBadLog bytes at

-- the record at this place is bad, or a fault of the outside kept the start from finding it
abbrev pub IsBadRecordAt : ℕ → LogFault → Type 0
IsBadRecordAt at NoMemory = Unit {0}
IsBadRecordAt at Failed = Unit {0}
IsBadRecordAt at NeedsMend = ⊥
IsBadRecordAt at Full = ⊥
IsBadRecordAt at (BadRecord place) = place ≡ at
