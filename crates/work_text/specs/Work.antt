-- The text of a work: `bigfed 1` and then a line for each command. Empty lines and lines that begin with # are skipped.
use Rattle.std.specs.Prelude.{◌≡◌, ◌≢◌, ℕ, ◌+◌, ◌≤◌, Bool, true, ◌||◌, List, [], ◌∷◌, ◌++◌, length, map, IsTrue, ◌==◌, if◌then◌else◌, codes, ◌⊎◌}
use Rattle.std.specs.List.{list_all, AllByRecursion}
use Rattle.std.specs.Fmt.{decimal}
use Rattle.base_core.specs.declared.lines.LineEnd.TheVariants.{LineFeed}
use Rattle.term_core.specs.Characters.{is_digit, is_letter}
use Rattle.base_core.specs.Lines.{lines_of}
use Rattle.work_text.specs.declared.work.Command.{Command}
use Rattle.work_text.specs.declared.work.Command.TheVariants.{Load, Unload, Query, QueryFile}
use Rattle.work_text.specs.declared.work.Line.{Line}
use Rattle.work_text.specs.declared.work.Work.{Work}

abbrev pub is_skipped : List ℕ → Bool
is_skipped [] = true
is_skipped (b ∷ bytes) = b == 35

-- the lines that aren't skipped, each with its number, where the first has this number
abbrev pub numbered : ℕ → List (List ℕ) → List (ℕ × List ℕ)
numbered number [] = []
numbered number (line ∷ lines) =
    if is_skipped line then numbered (number + 1) lines else (number, line) ∷ numbered (number + 1) lines

abbrev pub written : List ℕ → List (ℕ × List ℕ)
written bytes = numbered 1 (lines_of LineFeed bytes)

-- letters, digits, dot, low line and hyphen
abbrev pub is_name_byte : ℕ → Bool
is_name_byte b = is_letter b || is_digit b || b == 46 || b == 95 || b == 45

abbrev pub BeginsName : List ℕ → Type 0
BeginsName [] = ⊥
BeginsName (b ∷ bytes) = b ≢ 46

-- a document's name: 1 to 200 such bytes, of which the first is no dot
pub record IsName (name : List ℕ) : Type 0 where
  pub first : BeginsName name
  pub each : IsTrue (list_all is_name_byte name)
  pub short : length name ≤ 200

abbrev pub IsCommand : Command → Type 0
IsCommand (Load name) = IsName name
IsCommand (Unload name) = IsName name
IsCommand (Query text) = text ≢ []
IsCommand (QueryFile name) = IsName name

-- today all commands are of session 1
pub record IsLine (line : Line) : Type 0 where
  pub session : line.session ≡ 1
  pub command : IsCommand line.command

abbrev pub command_text : Command → List ℕ
command_text (Load name) = codes "load " ++ name
command_text (Unload name) = codes "unload " ++ name
command_text (Query text) = codes "query " ++ text
command_text (QueryFile name) = codes "queryfile " ++ name

abbrev pub line_text : Line → List ℕ
line_text line = decimal line.session ++ 32 ∷ command_text line.command

-- what the lines of a work say, in order
abbrev pub spelled : List Line → List (List ℕ)
spelled lines = codes "bigfed 1" ∷ map line_text lines

-- lines of commands, at most 4,096
pub record AreLines (lines : List Line) : Type 0 where
  pub each : AllByRecursion IsLine lines
  pub few : length lines ≤ 4096

-- the bytes are the text of this work
pub record IsWork (bytes : List ℕ) (work : Work) : Type 0 where
  pub lines : AreLines work.lines
  pub text : map (λ line. line.1) (written bytes) ≡ spelled work.lines

-- lines that a work may begin with
abbrev pub IsFront : List (List ℕ) → Type 0
IsFront texts = (texts ≡ []) ⊎ ((lines : List Line) × AreLines lines × (texts ≡ spelled lines))

-- the line of this number is the first with which no work begins any more
pub record Stops (bytes : List ℕ) (number : ℕ) : Type 0 where
  pub front : List (ℕ × List ℕ)
  pub bad : List ℕ
  pub rest : List (ℕ × List ℕ)
  pub cut : written bytes ≡ front ++ (number, bad) ∷ rest
  pub good : IsFront (map (λ line. line.1) front)
  pub outside : IsFront (map (λ line. line.1) front ++ bad ∷ []) → ⊥

-- The first line outside the grammar. Where all lines are skipped it is the one behind the last.
abbrev pub IsBadWorkLine : List ℕ → ℕ → Type 0
IsBadWorkLine bytes number =
    Stops bytes number ⊎ ((written bytes ≡ []) × (number ≡ length (lines_of LineFeed bytes) + 1))
