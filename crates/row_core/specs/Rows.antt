-- Rows: how they stand, which are the newest, and what a chunk of them is.
use Rattle.std.specs.Prelude.{◌≡◌, ◌≢◌, ℕ, ◌<◌, ◌≤◌, ◌↔◌, List, [], ◌∷◌, ◌++◌, length, Option, Some, None, ◌⊎◌}
use Rattle.std.specs.List.{AllByRecursion}
use Rattle.std.specs.declared.cmp.Ordering.{Ordering}
use Rattle.std.specs.Ordering.{nat_cmp, ordering_then}
use Rattle.std.specs.Cmp.Lexicographic.{slice_cmp}
use Rattle.base_core.specs.Lists.{Has, AreDistinct}
use Rattle.fed_bytes.specs.declared.span.Span.{Span}
use Rattle.fed_bytes.specs.Keys.{IsBefore, IsUpTo, IsIn}
use Rattle.row_core.specs.declared.rows.Row.{Row}
use Rattle.row_core.specs.declared.rows.Chunk.{Chunk}

-- one row comes before another: its key does, or the keys are one and its time is above the other's
abbrev pub ComesBefore : Row → Row → Type 0
ComesBefore one other = IsBefore one.key other.key ⊎ ((one.key ≡ other.key) × (other.time < one.time))

-- each row comes before all that stand behind it: rows stand by key, and within a key newest first
abbrev pub StandInOrder : List Row → Type 0
StandInOrder [] = Unit {0}
StandInOrder (row ∷ rows) = AllByRecursion (ComesBefore row) rows × StandInOrder rows

-- the key is in the span, and the time is above `from` and at most `upto`
pub record IsWithin (span : Span) (from upto : ℕ) (row : Row) : Type 0 where
  pub key : IsIn span row.key
  pub above : from < row.time
  pub at_most : row.time ≤ upto

abbrev pub AreWithin : Span → ℕ → ℕ → List Row → Type 0
AreWithin span from upto rows = AllByRecursion (IsWithin span from upto) rows

-- the row is one of the key, at or before the time
pub record IsAt (key : List ℕ) (time : ℕ) (row : Row) : Type 0 where
  pub key_is : row.key ≡ key
  pub at_most : row.time ≤ time

-- `found` is the newest of the rows of the key at or before the time, if there is one
abbrev pub IsLast : List Row → List ℕ → ℕ → Option Row → Type 0
IsLast rows key time None = (row : Row) → Has rows row → ¬ IsAt key time row
IsLast rows key time (Some found) = Has rows found × IsAt key time found × ((row : Row) → Has rows row → IsAt key time row → row.time ≤ found.time)

-- rows stand in order, and are those of all the rows whose keys are from a key on
abbrev pub AreFrom : List Row → List ℕ → List Row → Type 0
AreFrom rows key found = StandInOrder found × ((row : Row) → (Has found row ↔ (Has rows row × IsUpTo key row.key)))

-- these are the keys of the rows, each once
abbrev pub AreKeysOf : List Row → List (List ℕ) → Type 0
AreKeysOf rows keys = AreDistinct keys × ((key : List ℕ) → (Has keys key ↔ ((row : Row) × Has rows row × (row.key ≡ key))))

-- the rows have so many different keys
abbrev pub HaveKeys : List Row → ℕ → Type 0
HaveKeys rows count = (keys : List (List ℕ)) × AreKeysOf rows keys × (length keys ≡ count)

-- the first of the rows has the key
abbrev pub BeginWith : List ℕ → List Row → Type 0
BeginWith key [] = ⊥
BeginWith key (row ∷ rows) = row.key ≡ key

-- The rows of a chunk have so many keys, and these rows are left behind them. Either none is left, and the keys are at most
-- `most`; or the keys are `most`, and what is left begins with the next key, which the chunk has no row of.
abbrev pub EndsAt : Option (List ℕ) → ℕ → ℕ → List Row → List Row → Type 0
EndsAt None most count rows rest = (rest ≡ []) × (count ≤ most)
EndsAt (Some next) most count rows rest = BeginWith next rest × (count ≡ most) × ((row : Row) → Has rows row → row.key ≢ next)

-- the chunk has all rows of the first `most` keys from a key on, and `next` is the key behind them, if there is one
pub record IsChunk (rows : List Row) (key : List ℕ) (most : ℕ) (chunk : Chunk) : Type 0 where
  pub rest : List Row
  pub count : ℕ
  pub from : AreFrom rows key (chunk.rows ++ rest)
  pub keys : HaveKeys chunk.rows count
  pub ends : EndsAt chunk.next most count chunk.rows rest

-- the rows with those added whose keys are in the span
pub record AreExtended (span : Span) (rows added extended : List Row) : Type 0 where
  pub in_order : StandInOrder extended
  pub has : (row : Row) → (Has extended row ↔ (Has rows row ⊎ (Has added row × IsIn span row.key)))

-- rows that change a window at a time: each is of that time, and they stand by key, each key once
pub record AreChanges (time : ℕ) (rows : List Row) : Type 0 where
  pub in_order : StandInOrder rows
  pub times : AllByRecursion (λ row. row.time ≡ time) rows

-- each key stands before all that stand behind it
abbrev pub Rise : List (List ℕ) → Type 0
Rise [] = Unit {0}
Rise (key ∷ keys) = AllByRecursion (IsBefore key) keys × Rise keys

-- the rows of a window stand in order, and are within its span and its times
pub record IsWindow (span : Span) (from upto : ℕ) (rows : List Row) : Type 0 where
  pub in_order : StandInOrder rows
  pub within : AreWithin span from upto rows
  pub times : from ≤ upto

-- rows stand by key, and within a key the latest first
abbrev pub row_cmp : Row → Row → Ordering
row_cmp one other = ordering_then (slice_cmp nat_cmp one.key other.key) (nat_cmp other.time one.time)
