-- When each fault of bytes that should spell a term comes.
use Rattle.std.specs.Prelude.{◌≡◌, ℕ, List}
use Rattle.term_core.specs.declared.fault.TermFault.{TermFault}
use Rattle.term_core.specs.declared.fault.TermFault.TheVariants.{NoMemory, BadTerm}
use Rattle.term_core.specs.declared.term.Term.{Term}
use Rattle.term_core.specs.Spelling.{spelling, IsFirstBadField}
use Rattle.term_core.specs.Term.{IsTerm}

abbrev pub IsNoMemory : TermFault → Type 0
IsNoMemory NoMemory = Unit {0}
IsNoMemory (BadTerm at) = ⊥

-- want of memory comes freely, and bytes are called bad where they spell no term, at the first field that breaks its rule
abbrev pub IsTermFault : List ℕ → TermFault → Type 0
IsTermFault bytes NoMemory = Unit {0}
IsTermFault bytes (BadTerm at) = IsFirstBadField bytes at × ((term : Term) → IsTerm term → bytes ≡ spelling term → ⊥)
