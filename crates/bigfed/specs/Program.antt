-- What the program answers, prints and ends with.
use Rattle.std.specs.Prelude.{◌≡◌, ℕ, ◌+◌, ◌-◌, ◌<◌, ◌≤◌, ◌^◌, length, Bool, true, false, List, [], ◌∷◌, ◌++◌, Option, Some, None, if◌then◌else◌, codes, ◌⊎◌}
use Rattle.std.specs.List.{list_all}
use Rattle.std.specs.Fmt.{decimal}
use Rattle.work_text.specs.declared.docs.Doc.{Doc}
use Rattle.work_text.specs.declared.docs.Doc.TheVariants.{Bytes, Missing, TooLarge}
use Rattle.work_text.specs.declared.report.Outcome.{Outcome}
use Rattle.work_text.specs.declared.report.Outcome.TheVariants.{Changed, Answered, NoDocument, DocumentTooLarge, BadLine, TermTooLong, TooManyStatements, LabelInRemoval, QueryAt, QueryLeftOut, TooManyPatterns, TooManyRows}
use Rattle.work_text.specs.declared.report.RunReport.{RunReport}
use Rattle.work_text.specs.declared.work.Command.TheVariants.{Load, Unload, Query, QueryFile}
use Rattle.work_text.specs.declared.work.Command.{Command}
use Rattle.work_text.specs.declared.work.Line.{Line}
use Rattle.work_text.specs.declared.work.Work.{Work}
use Rattle.change_model.specs.History.{History}
use Rattle.base_core.specs.Faults.{HasRisen}
use Rattle.work_text.specs.Outside.{IsDocOf, IsTaken}
use Rattle.work_text.specs.Report.{ended, report_text}
use Rattle.work_text.specs.Work.{IsWork, IsBadWorkLine}
use Rattle.bigfed.specs.declared.answer.Answer.{Answer}
use Rattle.bigfed.specs.declared.answer.Answer.TheVariants.{Usage, NoWork, WorkTooLarge, BadWork, DocumentsTooLarge, ShelfFault, Ran}
use Rattle.bigfed.specs.Legal.{Legal}
use Rattle.bigfed.specs.Names.{with_name}
use Rattle.nt_text.specs.Limits.{largest_document}
use Rattle.bigfed.specs.Limits.{largest_documents}
use Rattle.work_text.specs.Limits.{largest_work}

abbrev pub is_done : Outcome → Bool
is_done (Changed time) = true
is_done (Answered time columns rows) = true
is_done NoDocument = false
is_done DocumentTooLarge = false
is_done (BadLine line) = false
is_done (TermTooLong line) = false
is_done (TooManyStatements line) = false
is_done (LabelInRemoval line) = false
is_done (QueryAt place) = false
is_done (QueryLeftOut place word) = false
is_done TooManyPatterns = false
is_done (TooManyRows time) = false

abbrev pub session_done : List Outcome → Bool
session_done outcomes = list_all is_done outcomes

-- every command of every session had its Ok
abbrev pub all_done : List (List Outcome) → Bool
all_done outcomes = list_all session_done outcomes

abbrev pub answer_text : Answer → List ℕ
answer_text Usage = ended (codes "usage: bigfed replay WORK")
answer_text NoWork = ended (codes "no work")
answer_text WorkTooLarge = ended (codes "work too large")
answer_text (BadWork line) = ended (codes "bad work line " ++ decimal line)
answer_text DocumentsTooLarge = ended (codes "documents too large")
answer_text (ShelfFault count) = ended (codes "shelf fault " ++ decimal count)
answer_text (Ran work report) = report_text report work

-- 0 where every command had its Ok, 1 where some command was refused, 2 where nothing was run, 3 after a fault
abbrev pub answer_status : Answer → ℕ
answer_status Usage = 2
answer_status NoWork = 2
answer_status WorkTooLarge = 2
answer_status (BadWork line) = 2
answer_status DocumentsTooLarge = 2
answer_status (ShelfFault count) = 3
answer_status (Ran work report) = if all_done report.outcomes then 0 else 1

-- what a report's text needs: its times are numbers of 64 bits
abbrev pub IsPrintable : Answer → Type 0
IsPrintable Usage = Unit {0}
IsPrintable NoWork = Unit {0}
IsPrintable WorkTooLarge = Unit {0}
IsPrintable (BadWork line) = Unit {0}
IsPrintable DocumentsTooLarge = Unit {0}
IsPrintable (ShelfFault count) = Unit {0}
IsPrintable (Ran work report) = report.opened + length report.origins < 2 ^ 64

-- the one form of words
abbrev pub replay_of : List ℕ → List (List ℕ)
replay_of name = codes "replay" ∷ name ∷ []

abbrev pub Documents : Type 0
Documents = Option (List (List ℕ × List ℕ))

-- the name of the document that a command needs
abbrev pub name_of : Command → Option (List ℕ)
name_of (Load name) = Some name
name_of (Unload name) = Some name
name_of (Query text) = None
name_of (QueryFile name) = Some name

-- some line needs the document of this name
abbrev pub IsNamed : List ℕ → List Line → Type 0
IsNamed name [] = ⊥
IsNamed name (line ∷ lines) = (name_of line.command ≡ Some name) ⊎ IsNamed name lines

abbrev pub with_document : List (List ℕ) → Option (List ℕ) → List (List ℕ)
with_document names None = names
with_document names (Some name) = with_name names name

-- the names that the lines need, each once, behind these
abbrev pub with_lines : List (List ℕ) → List Line → List (List ℕ)
with_lines names [] = names
with_lines names (line ∷ lines) = with_lines (with_document names (name_of line.command)) lines

-- a document that is too large by itself isn't read, and counts for nothing
abbrev pub size_of : Doc → ℕ
size_of (Bytes bytes) = length bytes
size_of Missing = 0
size_of TooLarge = 0

-- how many bytes the documents of these names have together
abbrev pub total : (List ℕ → Doc) → List (List ℕ) → ℕ
total docs [] = 0
total docs (name ∷ names) = size_of (docs name) + total docs names

-- the documents under the names that a work needs, and what they have together
pub record AreDocuments (told : Documents) (work : Work) (docs : List ℕ → Doc) (size : ℕ) : Type 0 where
  pub each : (name : List ℕ) → IsNamed name work.lines → IsDocOf told largest_document name (docs name)
  pub size_is : size ≡ total docs (with_lines [] work.lines)

-- the report of a run is legal for its history, over the documents that the shelf has
pub record Reports (told : Documents) (bytes : List ℕ) (work : Work) (report : RunReport) : Type 0 where
  pub work_is : IsWork bytes work
  pub docs : List ℕ → Doc
  pub size : ℕ
  pub docs_are : AreDocuments told work docs size
  pub within : size ≤ largest_documents
  pub history : History
  pub legal : Legal docs work report history

-- the documents that a work needs have over 536,870,912 bytes together
pub record AreTooLarge (told : Documents) (bytes : List ℕ) : Type 0 where
  pub work : Work
  pub work_is : IsWork bytes work
  pub docs : List ℕ → Doc
  pub size : ℕ
  pub docs_are : AreDocuments told work docs size
  pub above : largest_documents < size

-- The answer has its cause in the words, in what the shelf tells, and in its count of faults before and after the call.
abbrev pub IsAnswerTo : List (List ℕ) → Documents → ℕ → ℕ → Answer → Type 0
IsAnswerTo words told before after Usage = (name : List ℕ) → words ≡ replay_of name → ⊥
IsAnswerTo words told before after NoWork = (name : List ℕ) × (words ≡ replay_of name) × IsDocOf told largest_work name Missing
IsAnswerTo words told before after WorkTooLarge = (name : List ℕ) × (words ≡ replay_of name) × IsDocOf told largest_work name TooLarge
IsAnswerTo words told before after (BadWork line) =
    (name bytes : List ℕ) × (words ≡ replay_of name) × IsDocOf told largest_work name (Bytes bytes) × IsBadWorkLine bytes line
IsAnswerTo words told before after DocumentsTooLarge =
    (name bytes : List ℕ) × (words ≡ replay_of name) × IsDocOf told largest_work name (Bytes bytes) × AreTooLarge told bytes
IsAnswerTo words told before after (ShelfFault count) =
    (name : List ℕ) × (words ≡ replay_of name) × HasRisen before after × (count ≡ after)
IsAnswerTo words told before after (Ran work report) =
    (name bytes : List ℕ) × (words ≡ replay_of name) × IsDocOf told largest_work name (Bytes bytes) × Reports told bytes work report

-- The sink took the whole text without a fault and the status is the answer's, or it took a front of the text, its count rose, and the status is 3.
abbrev pub IsPrinted : List ℕ → ℕ → Option (List ℕ) → Option (List ℕ) → ℕ → ℕ → ℕ → Type 0
IsPrinted text status_of_answer old new before after status =
    (IsTaken old new text × (after ≡ before) × (status ≡ status_of_answer))
    ⊎ ((front rest : List ℕ) × (text ≡ front ++ rest) × IsTaken old new front × HasRisen before after × (status ≡ 3))

-- what is there before and after a call of the program: what the shelf tells and its faults, what the sink took and its faults
pub record Outside : Type 0 where
  pub told : Documents
  pub shelf_faults_before : ℕ
  pub shelf_faults : ℕ
  pub taken_before : Option (List ℕ)
  pub taken : Option (List ℕ)
  pub sink_faults_before : ℕ
  pub sink_faults : ℕ

-- an answer with its cause was printed
pub record Answers (words : List (List ℕ)) (outside : Outside) (status : ℕ) : Type 0 where
  pub answer : Answer
  pub cause : IsAnswerTo words outside.told outside.shelf_faults_before outside.shelf_faults answer
  pub printed : IsPrinted (answer_text answer) (answer_status answer) outside.taken_before outside.taken outside.sink_faults_before outside.sink_faults status

-- memory ran out, and the sink wasn't called
pub record IsOutOfMemory (outside : Outside) (status : ℕ) : Type 0 where
  pub status_is : status ≡ 4
  pub nothing : IsTaken outside.taken_before outside.taken []
  pub no_fault : outside.sink_faults ≡ outside.sink_faults_before

-- what one call of the program does
abbrev pub Serves : List (List ℕ) → Outside → ℕ → Type 0
Serves words outside status = Answers words outside status ⊎ IsOutOfMemory outside status
