-- Private: runs: lists of rows in order, the later ones of later times, and the rows that they have together.
use Rattle.std.specs.Prelude.{◌≡◌, ℕ, ◌<◌, ◌≤◌, ◌↔◌, List, [], ◌∷◌, ◌++◌, length, take, drop, get_or, Bool, true, false, Option, Some, None, ◌⊎◌}
use Rattle.std.specs.declared.cmp.Ordering.{Ordering}
use Rattle.std.specs.List.{AllByRecursion}
use Rattle.std.specs.Ordering.{is_le, nat_cmp, ordering_then, match_ordering}
use Rattle.std.specs.Cmp.Lexicographic.{slice_cmp}
use Rattle.base_core.specs.Lists.{Has}
use Rattle.fed_bytes.specs.declared.span.Span.{Span}
use Rattle.fed_bytes.specs.Keys.{IsBefore, IsUpTo, IsIn}
use Rattle.row_core.specs.declared.rows.Row.{Row}
use Rattle.window_core.specs.Packed.{row_at}
use Rattle.row_core.specs.Rows.{ComesBefore, StandInOrder, IsLast, row_cmp}

-- a row among rows in order, if none stands at its place
abbrev pub put_in : Row → List Row → List Row
put_in row [] = row ∷ []
put_in row (first ∷ rows) = match_ordering (row_cmp row first) (row ∷ first ∷ rows) (first ∷ rows) (first ∷ put_in row rows)

-- rows in order
abbrev pub arranged : List Row → List Row
arranged [] = []
arranged (row ∷ rows) = put_in row (arranged rows)

abbrev pub all_of : List (List Row) → List Row
all_of [] = []
all_of (run ∷ runs) = run ++ all_of runs

-- the rows of a window with these runs
abbrev pub merged : List (List Row) → List Row
merged runs = arranged (all_of runs)

-- each time of the first rows is before each time of the others
abbrev pub AreOlder : List Row → List Row → Type 0
AreOlder rows others = AllByRecursion (λ row. AllByRecursion (λ other. row.time < other.time) others) rows

-- each run is older than all that come behind it
abbrev pub RunsRise : List (List Row) → Type 0
RunsRise [] = Unit {0}
RunsRise (run ∷ runs) = AreOlder run (all_of runs) × RunsRise runs

-- each run stands in order, and the later ones are of later times
abbrev pub AreRuns : List (List Row) → Type 0
AreRuns runs = AllByRecursion StandInOrder runs × RunsRise runs

-- these rows stand in order, and are those of both
pub record IsMerge (one other merge : List Row) : Type 0 where
  pub in_order : StandInOrder merge
  pub has : (row : Row) → (Has merge row ↔ (Has one row ⊎ Has other row))

-- the row goes behind the others, if its key is in the span
abbrev pub IsTaken : Span → Row → List Row → List Row → Type 0
IsTaken span row old new = (IsIn span row.key × (new ≡ old ++ row ∷ [])) ⊎ ((¬ IsIn span row.key) × (new ≡ old))

-- these rows stand in order, and are those whose keys are in the span
pub record AreThoseIn (span : Span) (rows taken : List Row) : Type 0 where
  pub in_order : StandInOrder taken
  pub has : (row : Row) → (Has taken row ↔ (Has rows row × IsIn span row.key))

-- ---- which of two runs has the next row; the rows before these indexes were taken
pub record IsOlderNext (older : List Row) (from_older : ℕ) (newer : List Row) (from_newer : ℕ) : Type 0 where
  pub there : from_older < length older
  pub before : from_newer < length newer → IsBefore (row_at older from_older).key (row_at newer from_newer).key

pub record IsNewerNext (older : List Row) (from_older : ℕ) (newer : List Row) (from_newer : ℕ) : Type 0 where
  pub there : from_newer < length newer
  pub up_to : from_older < length older → IsUpTo (row_at newer from_newer).key (row_at older from_older).key

-- ---- searching a run
-- the place comes before the row's, or is the row's
abbrev pub reaches : List ℕ → ℕ → Row → Bool
reaches key time row = is_le (ordering_then (slice_cmp nat_cmp key row.key) (nat_cmp row.time time))

-- so many rows stand before the place, and all others at it or behind it
pub record IsFirstFrom (rows : List Row) (key : List ℕ) (time : ℕ) (index : ℕ) : Type 0 where
  pub within : index ≤ length rows
  pub before : AllByRecursion (λ row. reaches key time row ≡ false) (take index rows)
  pub behind : AllByRecursion (λ row. reaches key time row ≡ true) (drop index rows)

-- where the newest row of the key at or before the time stands, if there is one
abbrev pub IsFoundAt : List Row → List ℕ → ℕ → Option ℕ → Type 0
IsFoundAt rows key time None = IsLast rows key time None
IsFoundAt rows key time (Some index) = (index < length rows) × IsLast rows key time (Some (row_at rows index))

-- ---- several runs, of each of which the rows before an index were passed
abbrev pub run_at : List (List Row) → ℕ → List Row
run_at runs index = get_or runs index []

abbrev pub number_at : List ℕ → ℕ → ℕ
number_at numbers index = get_or numbers index 0

-- the row is one that is left of the first `count` runs
abbrev pub IsLeftOf : List (List Row) → List ℕ → ℕ → Row → Type 0
IsLeftOf runs passed count row = (index : ℕ) × (index < count) × Has (drop (number_at passed index) (run_at runs index)) row

-- the first row that is left of this run comes before all others that are left of the first `count` runs
pub record IsLeastOf (runs : List (List Row)) (passed : List ℕ) (count index : ℕ) : Type 0 where
  pub there : index < count
  pub left : number_at passed index < length (run_at runs index)
  pub least : (row : Row) → IsLeftOf runs passed count row
      → (row_at (run_at runs index) (number_at passed index) ≡ row) ⊎ ComesBefore (row_at (run_at runs index) (number_at passed index)) row

-- of the first `count` runs no row is left, or this one has the first
abbrev pub IsLeast : List (List Row) → List ℕ → ℕ → Option ℕ → Type 0
IsLeast runs passed count None = (row : Row) → ¬ IsLeftOf runs passed count row
IsLeast runs passed count (Some index) = IsLeastOf runs passed count index

-- of each run the rows before the place are passed
pub record ArePassedTo (runs : List (List Row)) (key : List ℕ) (time : ℕ) (passed : List ℕ) : Type 0 where
  pub count : length passed ≡ length runs
  pub each : (index : ℕ) → index < length runs → IsFirstFrom (run_at runs index) key time (number_at passed index)
