-- Adjacent windows of any kind: how they stand to each other, and what they have together.
use Rattle.std.specs.Prelude.{◌≡◌, ℕ, List, [], ◌∷◌, ◌++◌}
use Rattle.std.specs.List.{AllByRecursion}
use Rattle.base_core.specs.Lists.{Has}
use Rattle.fed_bytes.specs.declared.span.Span.{Span}
use Rattle.row_core.specs.declared.rows.Row.{Row}
use Rattle.row_core.specs.Rows.{IsWithin}

-- Windows over one span and between two times, the oldest first: each begins where the one before it ends. What a window's span and times
-- are is told by the first three.
abbrev pub AreAdjacent : {W : Type 0} → (W → Span) → (W → ℕ) → (W → ℕ) → Span → ℕ → List W → ℕ → Type 0
AreAdjacent span_of from_of upto_of span from [] upto = from ≡ upto
AreAdjacent span_of from_of upto_of span from (window ∷ newer) upto =
    (span_of window ≡ span) × (from_of window ≡ from) × AreAdjacent span_of from_of upto_of span (upto_of window) newer upto

-- the rows of all windows; a chunk of them puts them in order
abbrev pub rows_of_all : {W : Type 0} → (W → List Row) → List W → List Row
rows_of_all rows_of [] = []
rows_of_all rows_of (window ∷ newer) = rows_of window ++ rows_of_all rows_of newer

-- it is so of one of the windows
abbrev pub IsOfOne : {W : Type 0} → (W → Type 0) → List W → Type 0
IsOfOne {W} P windows = (window : W) × Has windows window × P window

-- each row is within the bounds of one of the windows, which says that it is kept
abbrev pub AreKeptByOne : {W : Type 0} → (W → Span) → (W → ℕ) → (W → ℕ) → (W → Row → Type 0) → List W → List Row → Type 0
AreKeptByOne span_of from_of upto_of kept windows rows =
    AllByRecursion (λ row. IsOfOne (λ window. IsWithin (span_of window) (from_of window) (upto_of window) row × kept window row) windows) rows
