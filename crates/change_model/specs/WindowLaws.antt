-- How windows that stand for a history are made from each other, and what several of them say together.
use Rattle.std.specs.Prelude.{◌≡◌, ◌↔◌, ℕ, suc, ◌<◌, ◌≤◌, min, max, List, [], ◌∷◌, ◌++◌, length, Option, Some, None, ◌⊎◌}
use Rattle.std.specs.List.{AllByRecursion}
use Rattle.base_core.specs.Lists.{Has}
use Rattle.fed_bytes.specs.declared.span.Span.{Span}
use Rattle.fed_bytes.specs.Keys.{IsIn}
use Rattle.row_core.specs.declared.rows.Index.{Index}
use Rattle.row_core.specs.declared.rows.Row.{Row}
use Rattle.row_core.specs.Rows.{StandInOrder, IsWithin, IsLast, AreExtended}
use Rattle.change_model.specs.History.{History}
use Rattle.change_model.specs.IndexRows.{IsRow, IsLastRow}
use Rattle.change_model.specs.Laws.{IsWritable, IsValue}
use Rattle.change_model.specs.Windows.{WindowData, IsLastAbove, MayBeDropped, MayBeFound, AnswersFor, WindowStandsFor}

-- The last row above the time 0 is the last row.
abbrev pub LastRowLaw : Type 0
LastRowLaw =
    (index : Index) (history : History) (key : List ℕ) (time : ℕ) (found : Option Row)
    → (IsLastAbove index history key 0 time found ↔ IsLastRow index history key time found)

-- What may be found for the last row is a value exactly where that row is.
abbrev pub FoundValueLaw : Type 0
FoundValueLaw = (from floor : ℕ) (last found : Option Row) → MayBeFound from floor last found → (IsValue found ↔ IsValue last)

-- A window with no rows and no times stands for each history that is long enough.
abbrev pub EmptyWindowLaw : Type 0
EmptyWindowLaw =
    (index : Index) (history : History) (window : WindowData)
    → window.rows ≡ [] → window.from ≡ window.upto → window.upto ≤ length history → WindowStandsFor index history window

-- Later changes leave a window as good as it was.
abbrev pub LongerHistoryLaw : Type 0
LongerHistoryLaw = (index : Index) (history more : History) (window : WindowData) → WindowStandsFor index history window → WindowStandsFor index (history ++ more) window

-- A floor may be raised.
abbrev pub RaisedFloorLaw : Type 0
RaisedFloorLaw =
    (index : Index) (history : History) (window : WindowData) (floor : ℕ)
    → WindowStandsFor index history window → window.floor ≤ floor → WindowStandsFor index history (record window { floor = floor })

-- of the keys of the span, the rows are those that the history gives to the index at the time
abbrev pub AreGivenAt : Index → History → Span → ℕ → List Row → Type 0
AreGivenAt index history span time rows = (row : Row) → IsIn span row.key → (Has rows row ↔ (IsRow index history row × (row.time ≡ time)))

-- the window with the rows of the next time
pub record IsNextWindow (window : WindowData) (added : List Row) (next : WindowData) : Type 0 where
  pub span : next.span ≡ window.span
  pub from : next.from ≡ window.from
  pub upto : next.upto ≡ suc window.upto
  pub floor : next.floor ≡ window.floor
  pub rows : AreExtended window.span window.rows added next.rows

-- With the rows of the next time a window stands for the history up to that time.
abbrev pub NextWindowLaw : Type 0
NextWindowLaw =
    (index : Index) (history : History) (window next : WindowData) (added : List Row)
    → WindowStandsFor index history window → IsNextWindow window added next → next.upto ≤ length history
    → AreGivenAt index history window.span next.upto added → WindowStandsFor index history next

-- two windows of one span, of which the newer begins where the older ends, taken as one
pub record AreJoined (older newer joined : WindowData) : Type 0 where
  pub adjacent : newer.from ≡ older.upto
  pub one_span : newer.span ≡ older.span
  pub span : joined.span ≡ older.span
  pub from : joined.from ≡ older.from
  pub upto : joined.upto ≡ newer.upto
  pub floor : joined.floor ≡ max older.floor newer.floor
  pub in_order : StandInOrder joined.rows
  pub has : (row : Row) → (Has joined.rows row ↔ (Has older.rows row ⊎ Has newer.rows row))

-- Two adjacent windows may be taken as one.
abbrev pub JoinedWindowLaw : Type 0
JoinedWindowLaw =
    (index : Index) (history : History) (older newer joined : WindowData)
    → WindowStandsFor index history older → WindowStandsFor index history newer → AreJoined older newer joined → WindowStandsFor index history joined

-- windows between two times, the oldest first: each begins where the one before it ends
abbrev pub AreAdjacent : ℕ → List WindowData → ℕ → Type 0
AreAdjacent from [] upto = from ≡ upto
AreAdjacent from (window ∷ newer) upto = (window.from ≡ from) × AreAdjacent window.upto newer upto

-- the window stands for the history, has the key in its span, and its floor is no higher than this
pub record ServesKey (index : Index) (history : History) (key : List ℕ) (floor : ℕ) (window : WindowData) : Type 0 where
  pub stands : WindowStandsFor index history window
  pub key_in : IsIn window.span key
  pub low : window.floor ≤ floor

-- none of the windows has a row of the key at or before the time
abbrev pub HaveNone : List ℕ → ℕ → List WindowData → Type 0
HaveNone key time windows = AllByRecursion (λ window. IsLast window.rows key time None) windows

-- the row is the last of the newest window that has one of the key at or before the time
pub record IsFromNewest (windows : List WindowData) (key : List ℕ) (time : ℕ) (row : Row) : Type 0 where
  pub older : List WindowData
  pub window : WindowData
  pub newer : List WindowData
  pub windows_are : windows ≡ older ++ window ∷ newer
  pub last : IsLast window.rows key time (Some row)
  pub none_newer : HaveNone key time newer

-- what the newest window with a row of the key has; none exactly where no window has one
abbrev pub IsLastAmong : List WindowData → List ℕ → ℕ → Option Row → Type 0
IsLastAmong windows key time None = HaveNone key time windows
IsLastAmong windows key time (Some row) = IsFromNewest windows key time row

-- Of adjacent windows the newest that has a row of the key answers for the history's last row.
abbrev pub AdjacentWindowsLaw : Type 0
AdjacentWindowsLaw =
    (index : Index) (history : History) (windows : List WindowData) (from upto floor time : ℕ) (key : List ℕ) (found : Option Row)
    → AllByRecursion (ServesKey index history key floor) windows → AreAdjacent from windows upto
    → floor ≤ time → IsLastAmong windows key time found → AnswersFor index history key from (min time upto) floor found

-- So adjacent windows from the beginning answer for the last row of the key up to the time.
abbrev pub LastAmongLaw : Type 0
LastAmongLaw =
    (index : Index) (history : History) (windows : List WindowData) (upto floor time : ℕ) (key : List ℕ) (found : Option Row)
    → AllByRecursion (ServesKey index history key floor) windows → AreAdjacent 0 windows upto
    → floor ≤ time → time ≤ upto → IsLastAmong windows key time found
    → (last : Option Row) × IsLastRow index history key time last × MayBeFound 0 floor last found

-- the history gives the row to the index, and it is within the window's span and times
abbrev pub IsRowWithin : Index → History → WindowData → Row → Type 0
IsRowWithin index history window row = IsRow index history row × IsWithin window.span window.from window.upto row

-- rows in order, between two times of the history, of which nothing is pruned
pub record IsUnpruned (history : History) (window : WindowData) : Type 0 where
  pub times : window.from ≤ window.upto
  pub known : window.upto ≤ length history
  pub floor : window.floor ≤ window.from
  pub in_order : StandInOrder window.rows

-- An unpruned window stands for the history exactly where its rows are all those of the history that are within it.
abbrev pub UnprunedWindowLaw : Type 0
UnprunedWindowLaw =
    (index : Index) (history : History) (window : WindowData)
    → IsWritable history → IsUnpruned history window
    → (WindowStandsFor index history window ↔ ((row : Row) → (Has window.rows row ↔ IsRowWithin index history window row)))

-- a window over all keys and all times of the history, of which nothing is pruned
pub record IsWholeWindow (history : History) (window : WindowData) : Type 0 where
  pub every_key : (key : List ℕ) → IsIn window.span key
  pub from : window.from ≡ 0
  pub upto : window.upto ≡ length history
  pub floor : window.floor ≡ 0
  pub in_order : StandInOrder window.rows

-- So a whole window stands for the history exactly where its rows are all those that the history gives to the index.
abbrev pub WholeWindowLaw : Type 0
WholeWindowLaw =
    (index : Index) (history : History) (window : WindowData)
    → IsWritable history → IsWholeWindow history window
    → (WindowStandsFor index history window ↔ ((row : Row) → (Has window.rows row ↔ IsRow index history row)))

-- the row is above the floor, or is the last of its key there
abbrev pub CountsFrom : ℕ → List Row → Row → Type 0
CountsFrom floor rows row = (floor < row.time) ⊎ IsLast rows row.key floor (Some row)

-- the window with a higher floor: it has rows that count from there on, and misses none of these but what may be dropped
pub record IsPruned (window pruned : WindowData) : Type 0 where
  pub span : pruned.span ≡ window.span
  pub from : pruned.from ≡ window.from
  pub upto : pruned.upto ≡ window.upto
  pub floor : window.floor ≤ pruned.floor
  pub in_order : StandInOrder pruned.rows
  pub has : (row : Row) → Has pruned.rows row → Has window.rows row × CountsFrom pruned.floor window.rows row
  pub misses : (row : Row) → Has window.rows row → CountsFrom pruned.floor window.rows row → Has pruned.rows row ⊎ MayBeDropped window.from pruned.floor row

-- A pruned window stands for the same history from its floor on.
abbrev pub PrunedWindowLaw : Type 0
PrunedWindowLaw = (index : Index) (history : History) (window pruned : WindowData) → WindowStandsFor index history window → IsPruned window pruned → WindowStandsFor index history pruned

-- the rows of the window whose keys are in a narrower span
pub record IsNarrowed (window narrowed : WindowData) : Type 0 where
  pub narrower : (key : List ℕ) → IsIn narrowed.span key → IsIn window.span key
  pub from : narrowed.from ≡ window.from
  pub upto : narrowed.upto ≡ window.upto
  pub floor : narrowed.floor ≡ window.floor
  pub in_order : StandInOrder narrowed.rows
  pub has : (row : Row) → (Has narrowed.rows row ↔ (Has window.rows row × IsIn narrowed.span row.key))

-- A window of a narrower span stands for the same history.
abbrev pub NarrowedWindowLaw : Type 0
NarrowedWindowLaw = (index : Index) (history : History) (window narrowed : WindowData) → WindowStandsFor index history window → IsNarrowed window narrowed → WindowStandsFor index history narrowed
