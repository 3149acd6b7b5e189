-- Private: two lists of rows made one, and rows cut off behind so many keys.
use Rattle.std.specs.Prelude.{◌≡◌, ◌↔◌, ℕ, ◌+◌, ◌≤◌, ◌<◌, List, [], ◌∷◌, ◌++◌, length, take, Option, Some, None, ◌⊎◌}
use Rattle.std.specs.List.{AllByRecursion}
use Rattle.base_core.specs.Lists.{Has}
use Rattle.fed_bytes.specs.Keys.{IsBefore, IsUpTo, IsBeforeEnd}
use Rattle.row_core.specs.declared.rows.Row.{Row}
use Rattle.row_core.specs.declared.rows.Chunk.{Chunk}
use Rattle.window_core.specs.Packed.{row_at}
use Rattle.row_core.specs.Rows.{HaveKeys, BeginWith}
use Rattle.window_core.specs.Runs.{IsMerge}
use Rattle.window_merge.specs.Parting.{IsPast}
use Rattle.window_merge.specs.Values.{IsKeyOf}

-- each row of the first is older than each of the others
abbrev pub AreEarlier : List Row → List Row → Type 0
AreEarlier rows others = (one other : Row) → Has rows one → Has others other → one.time < other.time

-- ---- which of two lists has the next row
abbrev pub IsBeforeFirst : Row → List Row → Type 0
IsBeforeFirst row [] = Unit {0}
IsBeforeFirst row (first ∷ rest) = IsBefore row.key first.key

abbrev pub IsUpToFirst : Row → List Row → Type 0
IsUpToFirst row [] = Unit {0}
IsUpToFirst row (first ∷ rest) = IsUpTo row.key first.key

-- the older list has a row, and the newer one none up to its key
abbrev pub IsOlderFirst : List Row → List Row → Type 0
IsOlderFirst [] newer = ⊥
IsOlderFirst (row ∷ older) newer = IsBeforeFirst row newer

-- the newer list's first row stands up to the older one's, or neither has a row
abbrev pub IsNewerFirst : List Row → List Row → Type 0
IsNewerFirst older [] = older ≡ []
IsNewerFirst older (row ∷ newer) = IsUpToFirst row older

-- the next row of both is taken from the list that has it; of one key the newer list's comes first
abbrev pub IsNextRow : List Row → List Row → List Row → List Row → Option Row → Type 0
IsNextRow older newer older_left newer_left None = (older ≡ []) × (newer ≡ [])
IsNextRow older newer older_left newer_left (Some row) =
    ((older ≡ row ∷ older_left) × (newer_left ≡ newer) × IsBeforeFirst row newer)
    ⊎ ((newer ≡ row ∷ newer_left) × (older_left ≡ older) × IsUpToFirst row older)

-- ---- ends
-- this end is one of both, and what stands before it stands before both
pub record IsEarlierEnd (one other end : Option (List ℕ)) : Type 0 where
  pub is_one : (end ≡ one) ⊎ (end ≡ other)
  pub both : (key : List ℕ) → (IsBeforeEnd key end ↔ (IsBeforeEnd key one × IsBeforeEnd key other))

-- ---- counting keys
-- how many keys may still begin behind the row at an index; none may where its key begins there and `left` is 0
abbrev pub IsLeftAt : List Row → ℕ → ℕ → Option ℕ → Type 0
IsLeftAt rows index left None = (¬ IsKeyOf (take index rows) (row_at rows index).key) × (left ≡ 0)
IsLeftAt rows index left (Some others) =
    (IsKeyOf (take index rows) (row_at rows index).key × (others ≡ left)) ⊎ ((¬ IsKeyOf (take index rows) (row_at rows index).key) × (others + 1 ≡ left))

-- so many rows have the first `most` keys
pub record AreOfKeys (rows : List Row) (most count : ℕ) : Type 0 where
  pub within : count ≤ length rows
  pub different : ℕ
  pub keys : HaveKeys (take count rows) different
  pub at_most : different ≤ most
  pub full : count < length rows → (different ≡ most) × ¬ IsKeyOf (take count rows) (row_at rows count).key

-- ---- a cut
-- The rows left behind a cut, and the key behind it: they begin with this key, which stands before the end, and so many keys are in
-- front; or it is the end, and all that is left stands there or behind it.
abbrev pub IsCutAt : Option (List ℕ) → ℕ → ℕ → Option (List ℕ) → List Row → Type 0
IsCutAt end most count next rest =
    ((key : List ℕ) × (next ≡ Some key) × BeginWith key rest × IsBeforeEnd key end × (count ≡ most))
    ⊎ ((next ≡ end) × (count ≤ most) × AllByRecursion (IsPast end) rest)

-- the chunk has the rows of the first `most` keys before the end
pub record IsCut (rows : List Row) (end : Option (List ℕ)) (most : ℕ) (chunk : Chunk) : Type 0 where
  pub rest : List Row
  pub count : ℕ
  pub whole : rows ≡ chunk.rows ++ rest
  pub keys : HaveKeys chunk.rows count
  pub before : AllByRecursion (λ row. IsBeforeEnd row.key chunk.next) chunk.rows
  pub ends : IsCutAt end most count chunk.next rest

-- two chunks of the same first key made one
pub record IsJoin (older newer : Chunk) (most : ℕ) (chunk : Chunk) : Type 0 where
  pub rows : List Row
  pub merge : IsMerge older.rows newer.rows rows
  pub end : Option (List ℕ)
  pub earlier : IsEarlierEnd older.next newer.next end
  pub cut : IsCut rows end most chunk
