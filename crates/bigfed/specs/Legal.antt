-- A report is legal where it tells one history, from the empty one on, and answers from it. Today there is one session.
use Rattle.std.specs.Prelude.{◌≡◌, ℕ, ◌+◌, ◌<◌, ◌≤◌, List, [], ◌∷◌, ◌++◌, length, map, Option, Some, None, ◌⊎◌}
use Rattle.std.specs.List.{slice_get}
use Rattle.std.specs.Option.{unwrap_or}
use Rattle.term_core.specs.declared.statement.Statement.{Statement}
use Rattle.base_core.specs.declared.lines.LineEnd.TheVariants.{Any}
use Rattle.base_core.specs.Lines.{lines_of}
use Rattle.nt_text.specs.declared.document.DocFault.{DocFault}
use Rattle.nt_text.specs.declared.document.DocFault.TheVariants as fault
use Rattle.nt_text.specs.Document.{IsDocument, IsFirstLabel}
use Rattle.nt_text.specs.Faults.{IsFirstBadLine}
use Rattle.nt_text.specs.Limits.{AreWithinLimits}
use Rattle.bgp_model.specs.declared.query.Query.{Query}
use Rattle.bgp_model.specs.declared.solution.Solution.{Solution}
use Rattle.bgp_model.specs.Solutions.{Solutions}
use Rattle.work_text.specs.declared.docs.Doc.{Doc}
use Rattle.work_text.specs.declared.docs.Doc.TheVariants.{Bytes, Missing, TooLarge}
use Rattle.change_model.specs.declared.history.Kind.TheVariants.{Add, Remove}
use Rattle.change_model.specs.declared.history.Kind.{Kind}
use Rattle.change_model.specs.declared.history.Origin.{Origin}
use Rattle.work_text.specs.declared.report.Outcome.{Outcome}
use Rattle.work_text.specs.declared.report.Outcome.TheVariants.{Changed, Answered, NoDocument, DocumentTooLarge, BadLine, TermTooLong, TooManyStatements, LabelInRemoval, QueryAt, QueryLeftOut, TooManyPatterns, TooManyRows}
use Rattle.work_text.specs.declared.report.RunReport.{RunReport}
use Rattle.work_text.specs.declared.work.Command.{Command}
use Rattle.work_text.specs.declared.work.Command.TheVariants.{Load, Unload, Query as Ask, QueryFile}
use Rattle.work_text.specs.declared.work.Line.{Line}
use Rattle.work_text.specs.declared.work.Work.{Work}
use Rattle.change_model.specs.History.{History, graph_at}
use Rattle.query_text.specs.declared.fault.QueryFault.{QueryFault}
use Rattle.query_text.specs.declared.fault.QueryFault.TheVariants as query_fault
use Rattle.query_text.specs.Meaning.{ReadsQuery}
use Rattle.query_text.specs.Refusals.{IsQueryFault}
use Rattle.bigfed.specs.Limits.{most_rows}
use Rattle.query_text.specs.Limits.{largest_query}

-- the bytes are a document of these statements, within the limits, and this is the first line that has a blank node
pub record IsReadAs (bytes : List ℕ) (statements : List Statement) (first_label : Option ℕ) : Type 0 where
  pub document : IsDocument bytes statements
  pub within : AreWithinLimits statements
  pub label : IsFirstLabel (lines_of Any bytes) 1 first_label

-- the statements are committed as one change
abbrev pub Commits : Kind → List Statement → Origin → History → Outcome → History → Type 0
Commits kind statements origin before outcome after =
    (outcome ≡ Changed (length before + 1))
    × (after ≡ before ++ record { change = record { kind = kind; statements = statements }; origin = origin } ∷ [])

-- what is said of a document's first bad line
abbrev pub refusal_of : DocFault → Option Outcome
refusal_of fault.NoMemory = None
refusal_of (fault.Line line) = Some (BadLine line)
refusal_of (fault.TooLong line) = Some (TermTooLong line)
refusal_of (fault.TooMany line) = Some (TooManyStatements line)

-- a document with a bad line is refused whole
abbrev pub IsRefused : List ℕ → History → Outcome → History → Type 0
IsRefused bytes before outcome after =
    (bad : DocFault) × IsFirstBadLine bytes bad × (refusal_of bad ≡ Some outcome) × (after ≡ before)

-- the line of the first blank node, where a change of this kind may have none: its label would mean a node of the change that takes out
abbrev pub refused_label : Kind → Option ℕ → Option ℕ
refused_label Add first_label = None
refused_label Remove first_label = first_label

-- The document's statements are put in or taken out. A document that may have no blank node and has some is refused, and the first such line is named.
abbrev pub Changes : Kind → List ℕ → Origin → History → Outcome → History → Type 0
Changes kind bytes origin before outcome after =
    (statements : List Statement) × (first_label : Option ℕ) × IsReadAs bytes statements first_label
    × (((refused_label kind first_label ≡ None) × Commits kind statements origin before outcome after)
    ⊎ ((line : ℕ) × (refused_label kind first_label ≡ Some line) × (outcome ≡ LabelInRemoval line) × (after ≡ before)))

-- a load or an unload
abbrev pub ChangeStep : Kind → Doc → Origin → History → Outcome → History → Type 0
ChangeStep kind Missing origin before outcome after = (outcome ≡ NoDocument) × (after ≡ before)
ChangeStep kind TooLarge origin before outcome after = (outcome ≡ DocumentTooLarge) × (after ≡ before)
ChangeStep kind (Bytes bytes) origin before outcome after = Changes kind bytes origin before outcome after ⊎ IsRefused bytes before outcome after

abbrev pub column_names : Query → List (List ℕ)
column_names query = map (λ column. unwrap_or (slice_get query.names column) []) query.columns

-- the solutions of a query of at most 16 patterns, over the triples left by all changes so far
abbrev pub IsAnswer : List ℕ → History → Outcome → Type 0
IsAnswer text history outcome =
    (query : Query) × ReadsQuery text query × (length query.patterns ≤ 16) × (rows : List Solution) × Solutions (graph_at history (length history)) query rows
    × (((length rows ≤ most_rows) × (outcome ≡ Answered (length history) (column_names query) rows))
    ⊎ ((most_rows < length rows) × (outcome ≡ TooManyRows (length history))))

-- what is said of a text that is no query, or of a query of too many patterns
abbrev pub query_refusal_of : QueryFault → Option Outcome
query_refusal_of query_fault.NoMemory = None
query_refusal_of (query_fault.At place) = Some (QueryAt place)
query_refusal_of (query_fault.LeftOut place word) = Some (QueryLeftOut place word)
query_refusal_of query_fault.TooManyPatterns = Some TooManyPatterns

abbrev pub IsRefusedQuery : List ℕ → Outcome → Type 0
IsRefusedQuery text outcome = (bad : QueryFault) × IsQueryFault text bad × (query_refusal_of bad ≡ Some outcome)

abbrev pub QueryStep : List ℕ → History → Outcome → Type 0
QueryStep text history outcome =
    ((largest_query < length text) × (outcome ≡ DocumentTooLarge))
    ⊎ ((length text ≤ largest_query) × (IsAnswer text history outcome ⊎ IsRefusedQuery text outcome))

-- the query of a document
abbrev pub QueryFileStep : Doc → History → Outcome → Type 0
QueryFileStep Missing history outcome = outcome ≡ NoDocument
QueryFileStep TooLarge history outcome = outcome ≡ DocumentTooLarge
QueryFileStep (Bytes text) history outcome = QueryStep text history outcome

-- what a command may do to the history, and what its outcome then is
abbrev pub Step : (List ℕ → Doc) → Origin → Command → History → Outcome → History → Type 0
Step docs origin (Load name) before outcome after = ChangeStep Add (docs name) origin before outcome after
Step docs origin (Unload name) before outcome after = ChangeStep Remove (docs name) origin before outcome after
Step docs origin (Ask text) before outcome after = QueryStep text before outcome × (after ≡ before)
Step docs origin (QueryFile name) before outcome after = QueryFileStep (docs name) before outcome × (after ≡ before)

-- the commands, one after another, the first of them at this place in its session
abbrev pub Runs : (List ℕ → Doc) → ℕ → List Line → History → List Outcome → History → Type 0
Runs docs place [] before [] after = after ≡ before
Runs docs place [] before (outcome ∷ outcomes) after = ⊥
Runs docs place (line ∷ lines) before [] after = ⊥
Runs docs place (line ∷ lines) before (outcome ∷ outcomes) after =
    (between : History) × Step docs (record { session = line.session; command = place }) line.command before outcome between
    × Runs docs (place + 1) lines between outcomes after

-- The report tells this history: it begins empty, each command has one outcome by the documents and the commands
-- before it, and each change stands once, with the command that it came from.
pub record Legal (docs : List ℕ → Doc) (work : Work) (report : RunReport) (history : History) : Type 0 where
  pub opened : report.opened ≡ 0
  pub outcomes : List Outcome
  pub of_session : report.outcomes ≡ outcomes ∷ []
  pub runs : Runs docs 1 work.lines [] outcomes history
  pub origins : report.origins ≡ map (λ committed. committed.origin) history
