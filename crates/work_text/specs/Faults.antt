-- When each fault of a work comes.
use Rattle.std.specs.Prelude.{ℕ, List}
use Rattle.work_text.specs.declared.read.WorkFault.{WorkFault}
use Rattle.work_text.specs.declared.read.WorkFault.TheVariants.{NoMemory, BadWork}
use Rattle.work_text.specs.Work.{IsBadWorkLine}

abbrev pub IsNoMemory : WorkFault → Type 0
IsNoMemory NoMemory = Unit {0}
IsNoMemory (BadWork line) = ⊥

-- want of memory comes freely, and a line is named exactly where it is the first bad one
abbrev pub IsWorkFault : List ℕ → WorkFault → Type 0
IsWorkFault bytes NoMemory = Unit {0}
IsWorkFault bytes (BadWork line) = IsBadWorkLine bytes line
