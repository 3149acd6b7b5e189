-- When each fault of a document comes.
use Rattle.std.specs.Prelude.{◌≡◌, ℕ, ◌+◌, ◌⊎◌, List, ◌∷◌, ◌++◌, length, Option, Some}
use Rattle.base_core.specs.declared.lines.LineEnd.TheVariants.{Any}
use Rattle.term_core.specs.declared.statement.Statement.{Statement}
use Rattle.base_core.specs.Lines.{lines_of}
use Rattle.nt_text.specs.declared.document.DocFault.{DocFault}
use Rattle.nt_text.specs.declared.document.DocFault.TheVariants as faults
use Rattle.nt_text.specs.Document.{Brings, AreLinesOf}
use Rattle.nt_text.specs.Limits.{HasShortTerms, AreWithinLimits, most_statements}

abbrev pub IsNoMemory : DocFault → Type 0
IsNoMemory faults.NoMemory = Unit {0}
IsNoMemory (faults.Line line) = ⊥
IsNoMemory (faults.TooLong line) = ⊥
IsNoMemory (faults.TooMany line) = ⊥

-- The line of this number, counted from 1: the lines before it are good, and say these statements.
pub record IsLine (bytes : List ℕ) (number : ℕ) (statements : List Statement) (line : List ℕ) : Type 0 where
  pub front : List (List ℕ)
  pub rest : List (List ℕ)
  pub cut : lines_of Any bytes ≡ front ++ line ∷ rest
  pub place : number ≡ length front + 1
  pub good : AreLinesOf front statements
  pub within : AreWithinLimits statements

-- it has none of the forms
abbrev pub IsOutside : List ℕ → Type 0
IsOutside line = (brought : Option Statement) → Brings line brought → ⊥

-- it has a term that is too long
abbrev pub IsTooLong : List ℕ → Type 0
IsTooLong line = (statement : Statement) × Brings line (Some statement) × (HasShortTerms statement → ⊥)

-- it brings one statement too many, which is none too long
abbrev pub IsTooMany : List Statement → List ℕ → Type 0
IsTooMany statements line = (statement : Statement) × Brings line (Some statement) × HasShortTerms statement × (length statements ≡ most_statements)

-- the line of this number stands behind good lines, and this is bad about it
abbrev pub IsBadLine : List ℕ → ℕ → (List Statement → List ℕ → Type 0) → Type 0
IsBadLine bytes number IsBad = (statements : List Statement) × (line : List ℕ) × IsLine bytes number statements line × IsBad statements line

-- the fault names the first line that is bad, by the first fault that it has
abbrev pub IsFirstBadLine : List ℕ → DocFault → Type 0
IsFirstBadLine bytes faults.NoMemory = ⊥
IsFirstBadLine bytes (faults.Line line) = IsBadLine bytes line (λ statements. IsOutside)
IsFirstBadLine bytes (faults.TooLong line) = IsBadLine bytes line (λ statements. IsTooLong)
IsFirstBadLine bytes (faults.TooMany line) = IsBadLine bytes line IsTooMany

-- want of memory comes freely
abbrev pub IsDocumentFault : List ℕ → DocFault → Type 0
IsDocumentFault bytes fault = IsNoMemory fault ⊎ IsFirstBadLine bytes fault

-- want of memory, or this fault
abbrev pub IsNoMemoryOr : DocFault → DocFault → Type 0
IsNoMemoryOr fault found = IsNoMemory found ⊎ (found ≡ fault)
