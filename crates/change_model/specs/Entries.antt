-- The rows that one change gives, and what is known of its terms before it is committed.
use Rattle.std.specs.Prelude.{◌≡◌, ◌↔◌, ℕ, suc, ◌≤◌, List, [], ◌∷◌, ◌++◌, map, length, take, drop, ◌+◌, ◌-◌, Option, Some, None}
use Rattle.std.specs.List.{slice_get}
use Rattle.term_core.specs.declared.term.Term.{Term}
use Rattle.term_core.specs.declared.statement.Statement.{Statement}
use Rattle.term_core.specs.Spelling.{spelling}
use Rattle.row_core.specs.declared.rows.Index.{Index}
use Rattle.row_core.specs.declared.rows.Index.TheVariants.{T2i, I2t, Spo, Pos, Osp}
use Rattle.row_core.specs.declared.rows.Row.{Row}
use Rattle.row_core.specs.Rows.{StandInOrder, AreChanges}
use Rattle.base_core.specs.Lists.{Has}
use Rattle.fed_bytes.specs.declared.span.Span.{Span}
use Rattle.change_model.specs.declared.history.Committed.{Committed}
use Rattle.change_model.specs.declared.entry.Entry.{Entry}
use Rattle.change_model.specs.declared.entry.Resolved.{Resolved}
use Rattle.change_model.specs.declared.vocabulary.Places.{Places}
use Rattle.change_model.specs.declared.vocabulary.Vocabulary.{Vocabulary}
use Rattle.change_model.specs.History.{History}
use Rattle.change_model.specs.Lexicon.{lexicon_at, HasId, with_terms, terms_of}
use Rattle.change_model.specs.IndexRows.{IsRow}
use Rattle.change_model.specs.WindowLaws.{AreGivenAt}

-- the rows that the history gives to the index at this time, by key
pub record AreRowsOf (index : Index) (history : History) (time : ℕ) (rows : List Row) : Type 0 where
  pub order : StandInOrder rows
  pub exactly : (row : Row) → Has rows row ↔ (IsRow index history row × (row.time ≡ time))

-- the entry has the rows of the history's last change
pub record IsLastEntry (history : History) (entry : Entry) : Type 0 where
  pub time : entry.time ≡ length history
  pub terms : entry.terms ≡ length (lexicon_at history (length history))
  pub t2i : AreRowsOf T2i history entry.time entry.t2i
  pub i2t : AreRowsOf I2t history entry.time entry.i2t
  pub spo : AreRowsOf Spo history entry.time entry.spo
  pub pos : AreRowsOf Pos history entry.time entry.pos
  pub osp : AreRowsOf Osp history entry.time entry.osp

-- Whatever history it is of: in each index the entry's rows are of the time, and stand by key, each key once.
pub record IsEntry (time : ℕ) (entry : Entry) : Type 0 where
  pub time_is : entry.time ≡ time
  pub t2i : AreChanges time entry.t2i
  pub i2t : AreChanges time entry.i2t
  pub spo : AreChanges time entry.spo
  pub pos : AreChanges time entry.pos
  pub osp : AreChanges time entry.osp

-- the entry's rows of an index
abbrev pub rows_for : Index → Entry → List Row
rows_for T2i entry = entry.t2i
rows_for I2t entry = entry.i2t
rows_for Spo entry = entry.spo
rows_for Pos entry = entry.pos
rows_for Osp entry = entry.osp

-- the entries are of the times after this one, one of each
abbrev pub AreTimed : ℕ → List Entry → Type 0
AreTimed time [] = Unit {0}
AreTimed time (entry ∷ entries) = IsEntry (suc time) entry × AreTimed (suc time) entries

-- the entry has the rows of the history's change of this time
pub record IsEntryAt (history : History) (time : ℕ) (entry : Entry) : Type 0 where
  pub known : time ≤ length history
  pub last : IsLastEntry (take time history) entry

-- the entries of the times after one and up to another, in their order
abbrev pub AreEntriesBetween : History → ℕ → ℕ → List Entry → Type 0
AreEntriesBetween history from upto [] = from ≡ upto
AreEntriesBetween history from upto (entry ∷ entries) = IsEntryAt history (suc from) entry × AreEntriesBetween history (suc from) upto entries

-- the entries of the times after this one, in their order
abbrev pub AreEntriesAfter : History → ℕ → List Entry → Type 0
AreEntriesAfter history pinned entries = AreEntriesBetween history pinned (length history) entries

-- the id is the term's, and none exactly where it has none
abbrev pub IsIdOf : History → Term → Option ℕ → Type 0
IsIdOf history term (Some id) = HasId history (length history) term id
IsIdOf history term None = (id : ℕ) → HasId history (length history) term id → ⊥

abbrev pub AreIdsOf : History → List Term → List (Option ℕ) → Type 0
AreIdsOf history [] [] = Unit {0}
AreIdsOf history [] (id ∷ ids) = ⊥
AreIdsOf history (term ∷ terms) [] = ⊥
AreIdsOf history (term ∷ terms) (id ∷ ids) = IsIdOf history term id × AreIdsOf history terms ids

-- the places name the statement's terms among these
pub record IsPlaced (terms : List Term) (statement : Statement) (places : Places) : Type 0 where
  pub subject : slice_get terms places.subject ≡ Some statement.subject
  pub predicate : slice_get terms places.predicate ≡ Some statement.predicate
  pub object : slice_get terms places.object ≡ Some statement.object

abbrev pub ArePlaced : List Term → List Statement → List Places → Type 0
ArePlaced terms [] [] = Unit {0}
ArePlaced terms [] (places ∷ more) = ⊥
ArePlaced terms (statement ∷ statements) [] = ⊥
ArePlaced terms (statement ∷ statements) (places ∷ more) = IsPlaced terms statement places × ArePlaced terms statements more

-- the distinct terms of the statements by first appearance, the spelling of each, and where each statement's terms stand there
pub record IsVocabularyOf (statements : List Statement) (vocabulary : Vocabulary) : Type 0 where
  pub terms : vocabulary.terms ≡ with_terms [] (terms_of statements)
  pub spellings : vocabulary.spellings ≡ map spelling vocabulary.terms
  pub places : ArePlaced vocabulary.terms statements vocabulary.places

-- the terms of a change, its labels unbound, and their ids after this history
pub record IsResolved (history : History) (resolved : Resolved) : Type 0 where
  pub vocabulary : IsVocabularyOf resolved.change.statements resolved.vocabulary
  pub ids : AreIdsOf history resolved.vocabulary.terms resolved.ids

-- The entry of a history's last change is one of its time, whatever the history.
abbrev pub LastEntryLaw : Type 0
LastEntryLaw = (history : History) (entry : Entry) → IsLastEntry history entry → IsEntry (length history) entry × IsEntryAt history (length history) entry

-- The entry of a time stays the entry of that time.
abbrev pub LongerEntryLaw : Type 0
LongerEntryLaw = (history more : History) (time : ℕ) (entry : Entry) → IsEntryAt history time entry → IsEntryAt (history ++ more) time entry

-- So do the entries between two times.
abbrev pub LongerEntriesLaw : Type 0
LongerEntriesLaw =
    (history more : History) (from upto : ℕ) (entries : List Entry)
    → AreEntriesBetween history from upto entries → AreEntriesBetween (history ++ more) from upto entries

-- With the entry of the next time they are the entries up to that time.
abbrev pub NextEntryLaw : Type 0
NextEntryLaw =
    (history : History) (from upto : ℕ) (entries : List Entry) (entry : Entry)
    → AreEntriesBetween history from upto entries → IsEntryAt history (suc upto) entry → AreEntriesBetween history from (suc upto) (entries ++ entry ∷ [])

-- So are the entries after a time, once the history has one more change.
abbrev pub GrownEntriesLaw : Type 0
GrownEntriesLaw =
    (history : History) (committed : Committed) (from : ℕ) (entries : List Entry) (entry : Entry)
    → AreEntriesAfter history from entries → IsLastEntry (history ++ committed ∷ []) entry → AreEntriesAfter (history ++ committed ∷ []) from (entries ++ entry ∷ [])

-- Of the entries between two times, those between two times within these.
abbrev pub SomeEntriesLaw : Type 0
SomeEntriesLaw =
    (history : History) (from first last upto : ℕ) (entries : List Entry)
    → AreEntriesBetween history from upto entries → from ≤ first → first ≤ last → last ≤ upto
    → AreEntriesBetween history first last (take (last - first) (drop (first - from) entries))

-- There are as many as times.
abbrev pub CountedEntriesLaw : Type 0
CountedEntriesLaw =
    (history : History) (from upto : ℕ) (entries : List Entry) → AreEntriesBetween history from upto entries → upto ≡ from + length entries

-- The entry of a time has the rows that the history gives to an index at that time, within any span.
abbrev pub GivenEntryLaw : Type 0
GivenEntryLaw =
    (index : Index) (history : History) (span : Span) (entry : Entry)
    → IsEntryAt history entry.time entry → AreGivenAt index history span entry.time (rows_for index entry)
