-- Private: what is read of a work line by line.
use Rattle.std.specs.Prelude.{◌≡◌, ℕ, false, List, [], ◌∷◌, ◌++◌, Option, Some, None, if◌then◌else◌}
use Rattle.work_text.specs.declared.read.WorkFault.{WorkFault}
use Rattle.work_text.specs.declared.read.WorkFault.TheVariants.{NoMemory, BadWork}
use Rattle.work_text.specs.declared.work.Line.{Line}
use Rattle.work_text.specs.Work.{is_skipped, IsName, IsLine, line_text, spelled, AreLines, IsFront}

-- the lines so far that aren't skipped: none yet, or the first line of a work and these commands
abbrev pub begun : Option (List Line) → List (List ℕ)
begun None = []
begun (Some lines) = spelled lines

abbrev pub AreBegun : Option (List Line) → Type 0
AreBegun None = Unit {0}
AreBegun (Some lines) = AreLines lines

abbrev pub unskipped : List ℕ → List (List ℕ)
unskipped line = if is_skipped line then [] else line ∷ []

-- what was read goes on with this line to what is read then
pub record WorkGoesOn (read : Option (List Line)) (line : List ℕ) (next : Option (List Line)) : Type 0 where
  pub texts : begun next ≡ begun read ++ unskipped line
  pub good : AreBegun read → AreBegun next

-- the line of this number can't follow what was read
abbrev pub CannotGoOn : Option (List Line) → List ℕ → ℕ → WorkFault → Type 0
CannotGoOn read line number NoMemory = Unit {0}
CannotGoOn read line number (BadWork bad) =
    (bad ≡ number) × (is_skipped line ≡ false) × (IsFront (begun read ++ line ∷ []) → ⊥)

-- the bytes as a name, where they are one
abbrev pub IsNameOf : List ℕ → Option (List ℕ) → Type 0
IsNameOf bytes None = IsName bytes → ⊥
IsNameOf bytes (Some name) = IsName name × (bytes ≡ name)

-- the command that stands on a line, where one does
abbrev pub IsReadingOf : List ℕ → Option Line → Type 0
IsReadingOf text None = (line : Line) → IsLine line → text ≡ line_text line → ⊥
IsReadingOf text (Some line) = IsLine line × (text ≡ line_text line)
