-- One command, as the history and the store see it.
use Rattle.std.proofs.Common.{◌≡◌, ℕ, ◌+◌, ◌<◌, ◌≤◌, List, [], ◌∷◌, ◌++◌, length, inl, inr, refl, sym, ◌∙◌, ap, IfOk, OnOk, Option, Some, None, Result, Ok, Err}
use Rattle.std.proofs.Common.{drop, get_or, subst, append_assoc}
use Rattle.std.proofs.lemmas.List.{length-map, drop_more, drop_all}
use Rattle.term_core.specs.declared.statement.Statement.{Statement}
use Rattle.base_core.specs.Lines.{lines_of}
use Rattle.base_core.specs.declared.lines.LineEnd.TheVariants.{Any}
use Rattle.nt_text.specs.declared.document.DocFault.{DocFault}
use Rattle.nt_text.specs.Document.{IsDocument, IsFirstLabel}
use Rattle.nt_text.specs.declared.document.DocFault.TheVariants as fault
use Rattle.nt_text.specs.Faults.{IsFirstBadLine, IsDocumentFault, IsNoMemory}
use Rattle.nt_text.specs.Limits.{AreWithinLimits}
use Rattle.work_text.specs.declared.docs.Doc.{Doc}
use Rattle.work_text.specs.declared.docs.Doc.TheVariants.{Bytes}
use Rattle.work_text.specs.declared.work.Command.TheVariants.{Query as Ask, QueryFile}
use Rattle.work_text.specs.declared.work.Line.{Line}
use Rattle.change_model.specs.declared.history.Kind.{Kind}
use Rattle.change_model.specs.declared.history.Kind.TheVariants.{Add, Remove}
use Rattle.change_model.specs.declared.history.Committed.{Committed}
use Rattle.change_model.specs.declared.history.Origin.{Origin}
use Rattle.work_text.specs.declared.report.Outcome.{Outcome}
use Rattle.work_text.specs.declared.report.Outcome.TheVariants.{Changed}
use Rattle.change_model.specs.History.{History}
use Rattle.bigfed.specs.declared.store.Store.{Store}
use Rattle.bigfed.specs.Legal.{IsReadAs, Commits, IsRefused, refusal_of, refused_label, ChangeStep, QueryStep, QueryFileStep, Step, Runs}
use Rattle.bigfed.specs.Standing.{StoreStandsFor}

-- a store has as many origins as its history has changes
pub length-origins : (store : Store) (history : History) → StoreStandsFor store history → length store.origins ≡ length history
length-origins store history stands = ap length stands.origins ∙ length-map history (λ (committed : Committed). committed.origin)

-- a change was committed
pub committed : {E : Type 0} (result : Result Outcome E) (old new : Store) (history : History) (kind : Kind) (statements : List Statement) (origin : Origin)
    → StoreStandsFor old history
    → IfOk result (λ outcome. outcome ≡ Changed (length old.origins + 1))
    → OnOk result (StoreStandsFor new (history ++ record { change = record { kind = kind; statements = statements }; origin = origin } ∷ []))
    → IfOk result (λ outcome. (after : History) × Commits kind statements origin history outcome after × StoreStandsFor new after)
committed (Ok outcome) old new history kind statements origin stands time after = (
  history ++ record { change = record { kind = kind; statements = statements }; origin = origin } ∷ [],
  (time ∙ ap (λ n. Changed (n + 1)) (length-origins old history stands), refl),
  after,
)
committed (Err e) old new history kind statements origin stands time after = tt

-- what isn't some is none
pub none_of : (o : Option ℕ) → ((x : ℕ) → o ≡ Some x → ⊥) → o ≡ None
none_of None never = refl
none_of (Some x) never = absurd (never x refl)

-- a document's statements were put in or taken out
pub changed : {E : Type 0} (result : Result Outcome E) (new : Store) (history : History) (kind : Kind) (bytes : List ℕ) (statements : List Statement) (first_label : Option ℕ)
    (origin : Origin) → IsReadAs bytes statements first_label → refused_label kind first_label ≡ None
    → IfOk result (λ outcome. (after : History) × Commits kind statements origin history outcome after × StoreStandsFor new after)
    → IfOk result (λ outcome. (after : History) × ChangeStep kind (Bytes bytes) origin history outcome after × StoreStandsFor new after)
changed (Ok outcome) new history kind bytes statements first_label origin read free done = (done.0, inl (statements, first_label, read, inl (free, done.1)), done.2)
changed (Err e) new history kind bytes statements first_label origin read free done = tt

-- what is told of a fault is told of a bad line
told_of : (bytes : List ℕ) (bad : DocFault) (outcome : Outcome) → IsDocumentFault bytes bad → refusal_of bad ≡ Some outcome → IsFirstBadLine bytes bad
told_of bytes fault.NoMemory outcome cause says = cc
told_of bytes (fault.Line line) outcome (inl never) says = absurd never
told_of bytes (fault.Line line) outcome (inr bad) says = bad
told_of bytes (fault.TooLong line) outcome (inl never) says = absurd never
told_of bytes (fault.TooLong line) outcome (inr bad) says = bad
told_of bytes (fault.TooMany line) outcome (inl never) says = absurd never
told_of bytes (fault.TooMany line) outcome (inr bad) says = bad

-- a document with a bad line was refused
pub refused : {E : Type 0} (result : Result Outcome E) (store : Store) (history : History) (bytes : List ℕ) (bad : DocFault)
    → StoreStandsFor store history → IsDocumentFault bytes bad → IfOk result (λ outcome. refusal_of bad ≡ Some outcome)
    → IfOk result (λ outcome. (after : History) × IsRefused bytes history outcome after × StoreStandsFor store after)
refused (Ok outcome) store history bytes bad stands cause says = (history, (bad, told_of bytes bad outcome cause says, says, refl), stands)
refused (Err e) store history bytes bad stands cause says = tt

pub not_changed : {E : Type 0} (result : Result Outcome E) (store : Store) (history : History) (kind : Kind) (bytes : List ℕ) (origin : Origin)
    → IfOk result (λ outcome. (after : History) × IsRefused bytes history outcome after × StoreStandsFor store after)
    → IfOk result (λ outcome. (after : History) × ChangeStep kind (Bytes bytes) origin history outcome after × StoreStandsFor store after)
not_changed (Ok outcome) store history kind bytes origin done = (done.0, inr done.1, done.2)
not_changed (Err e) store history kind bytes origin done = tt

-- a query leaves the history as it was
pub asked : {E : Type 0} (result : Result Outcome E) (store : Store) (docs : List ℕ → Doc) (origin : Origin) (text : List ℕ) (history : History)
    → StoreStandsFor store history → IfOk result (QueryStep text history)
    → IfOk result (λ outcome. (after : History) × Step docs origin (Ask text) history outcome after × StoreStandsFor store after)
asked (Ok outcome) store docs origin text history stands step = (history, (step, refl), stands)
asked (Err e) store docs origin text history stands step = tt

pub document_asked : {E : Type 0} (result : Result Outcome E) (store : Store) (docs : List ℕ → Doc) (origin : Origin) (name : List ℕ) (history : History)
    → StoreStandsFor store history → IfOk result (QueryFileStep (docs name) history)
    → IfOk result (λ outcome. (after : History) × Step docs origin (QueryFile name) history outcome after × StoreStandsFor store after)
document_asked (Ok outcome) store docs origin name history stands step = (history, (step, refl), stands)
document_asked (Err e) store docs origin name history stands step = tt

-- one more line was run
pub completes_more : (docs : List ℕ → Doc) (lines : List Line) (i place : ℕ) (line : Line) (done : List Outcome) (outcome : Outcome) (history between : History)
    → i < length lines → line ≡ get_or lines i line
    → ((outcomes : List Outcome) (after : History) → Runs docs place (drop i lines) history outcomes after → Runs docs 1 lines [] (done ++ outcomes) after)
    → Step docs (record { session = line.session; command = place }) line.command history outcome between
    → (outcomes : List Outcome) (after : History) → Runs docs (place + 1) (drop (i + 1) lines) between outcomes after
    → Runs docs 1 lines [] ((done ++ outcome ∷ []) ++ outcomes) after
completes_more docs lines i place line done outcome history between below is so_far step outcomes after runs =
    let rest : drop i lines ≡ line ∷ drop (i + 1) lines = drop_more lines i line below ∙ ap (λ (x : Line). x ∷ drop (i + 1) lines) (sym is) in
    subst (λ (all : List Outcome). Runs docs 1 lines [] all after) (sym (append_assoc done (outcome ∷ []) outcomes))
    (so_far (outcome ∷ outcomes) after
    (subst (λ (behind : List Line). Runs docs place behind history (outcome ∷ outcomes) after) (sym rest) (between, step, runs)))

append-nil : (outcomes : List Outcome) → outcomes ++ [] ≡ outcomes
append-nil [] = refl
append-nil (outcome ∷ outcomes) = ap (λ rest. outcome ∷ rest) (append-nil outcomes)

-- all lines were run
pub completes_all : (docs : List ℕ → Doc) (lines : List Line) (i place : ℕ) (done : List Outcome) (history : History)
    → length lines ≤ i
    → ((outcomes : List Outcome) (after : History) → Runs docs place (drop i lines) history outcomes after → Runs docs 1 lines [] (done ++ outcomes) after)
    → Runs docs 1 lines [] done history
completes_all docs lines i place done history past so_far =
    subst (λ (all : List Outcome). Runs docs 1 lines [] all history) (append-nil done)
    (so_far [] history (subst (λ (behind : List Line). Runs docs place behind history [] history) (sym (drop_all i lines past)) refl))
