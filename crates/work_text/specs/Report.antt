-- The printed text of a report.
use Rattle.std.specs.Prelude.{ℕ, ◌+◌, List, [], ◌∷◌, ◌++◌, length, map, filter, ◌==◌, codes}
use Rattle.std.specs.List.{flat_map}
use Rattle.std.specs.Fmt.{decimal}
use Rattle.bgp_model.specs.declared.solution.Solution.{Solution}
use Rattle.bgp_model.specs.Row.{line_of}
use Rattle.change_model.specs.declared.history.Origin.{Origin}
use Rattle.bgp_model.specs.Words.{printed}
use Rattle.work_text.specs.declared.report.Outcome.{Outcome}
use Rattle.work_text.specs.declared.report.Outcome.TheVariants.{Changed, Answered, NoDocument, DocumentTooLarge, BadLine, TermTooLong, TooManyStatements, LabelInRemoval, QueryAt, QueryLeftOut, TooManyPatterns, TooManyRows}
use Rattle.work_text.specs.declared.report.RunReport.{RunReport}
use Rattle.work_text.specs.declared.work.Command.{Command}
use Rattle.work_text.specs.declared.work.Command.TheVariants.{Load, Unload, Query, QueryFile}
use Rattle.work_text.specs.declared.work.Line.{Line}
use Rattle.work_text.specs.declared.work.Work.{Work}

abbrev pub ended : List ℕ → List ℕ
ended line = line ++ 10 ∷ []

-- the names of the columns, each behind ?, with tabs between them
abbrev pub header : List (List ℕ) → List ℕ
header [] = []
header (first ∷ others) = 63 ∷ first ++ flat_map (λ name. 9 ∷ 63 ∷ name) others

abbrev pub row_text : Solution → List ℕ
row_text row = ended (line_of row.cells)

abbrev pub answer_text : ℕ → List (List ℕ) → List Solution → List ℕ
answer_text time columns rows =
    ended (codes "time " ++ decimal time ++ codes " rows " ++ decimal (length rows)) ++ (ended (header columns) ++ flat_map row_text rows)

-- the rest of a command's line, and the lines of a result behind it
abbrev pub outcome_text : Outcome → List ℕ
outcome_text (Changed time) = ended (codes "time " ++ decimal time)
outcome_text (Answered time columns rows) = answer_text time columns rows
outcome_text NoDocument = ended (codes "refused no document")
outcome_text DocumentTooLarge = ended (codes "refused document too large")
outcome_text (BadLine line) = ended (codes "refused line " ++ decimal line)
outcome_text (TermTooLong line) = ended (codes "refused term too long line " ++ decimal line)
outcome_text (TooManyStatements line) = ended (codes "refused too many statements line " ++ decimal line)
outcome_text (LabelInRemoval line) = ended (codes "refused label in removal line " ++ decimal line)
outcome_text (QueryAt place) = ended (codes "refused query at " ++ decimal place)
outcome_text (QueryLeftOut place word) = ended (codes "refused query left out " ++ (printed word ++ (codes " at " ++ decimal place)))
outcome_text TooManyPatterns = ended (codes "refused too many patterns")
outcome_text (TooManyRows time) = ended (codes "refused too many rows time " ++ decimal time)

abbrev pub verb : Command → List ℕ
verb (Load name) = codes "load"
verb (Unload name) = codes "unload"
verb (Query text) = codes "query"
verb (QueryFile name) = codes "query"

abbrev pub command_text : ℕ → Command → Outcome → List ℕ
command_text place command outcome = decimal place ++ 32 ∷ verb command ++ 32 ∷ outcome_text outcome

-- each command with its outcome, the first at this place in its session
abbrev pub commands_text : ℕ → List Command → List Outcome → List ℕ
commands_text place [] outcomes = []
commands_text place (command ∷ commands) [] = []
commands_text place (command ∷ commands) (outcome ∷ outcomes) =
    command_text place command outcome ++ commands_text (place + 1) commands outcomes

-- the commands of a session, in order
abbrev pub commands_of : ℕ → List Line → List Command
commands_of session lines = map (λ line. line.command) (filter (λ line. line.session == session) lines)

-- a session without commands isn't printed
abbrev pub session_text : ℕ → List Command → List Outcome → List ℕ
session_text session commands [] = []
session_text session commands (outcome ∷ outcomes) =
    ended (codes "session " ++ decimal session) ++ commands_text 1 commands (outcome ∷ outcomes)

-- the sessions from this number on
abbrev pub sessions_text : ℕ → List Line → List (List Outcome) → List ℕ
sessions_text session lines [] = []
sessions_text session lines (outcomes ∷ others) =
    session_text session (commands_of session lines) outcomes ++ sessions_text (session + 1) lines others

-- a commit's time, session and command
abbrev pub commit_text : ℕ → Origin → List ℕ
commit_text time origin = ended (decimal time ++ 32 ∷ decimal origin.session ++ 32 ∷ decimal origin.command)

-- the commits, the first at this time
abbrev pub commits_text : ℕ → List Origin → List ℕ
commits_text time [] = []
commits_text time (origin ∷ origins) = commit_text time origin ++ commits_text (time + 1) origins

-- the changes of a run over a history of so many
abbrev pub history_text : ℕ → List Origin → List ℕ
history_text opened origins = ended (codes "history " ++ decimal (length origins)) ++ commits_text (opened + 1) origins

abbrev pub report_text : RunReport → Work → List ℕ
report_text report work =
    ended (codes "opened " ++ decimal report.opened)
    ++ (sessions_text 1 work.lines report.outcomes ++ history_text report.opened report.origins)
