-- Private: how rows are gathered into a chunk, key by key.
use Rattle.std.specs.Prelude.{◌≡◌, ℕ, ◌+◌, List, [], ◌∷◌, ◌++◌, Option, Some, None, ◌⊎◌}
use Rattle.row_core.specs.declared.rows.Row.{Row}

-- the last of the rows has the key
abbrev pub EndWith : List Row → List ℕ → Type 0
EndWith rows key = (front : List Row) × (last : Row) × (rows ≡ front ++ last ∷ []) × (last.key ≡ key)

-- how many keys may still begin once a row of this key is taken behind these rows; none may where the key begins and `left` is 0
abbrev pub IsLeftBy : List Row → List ℕ → ℕ → Option ℕ → Type 0
IsLeftBy rows key left None = (¬ EndWith rows key) × (left ≡ 0)
IsLeftBy rows key left (Some others) = (EndWith rows key × (others ≡ left)) ⊎ ((¬ EndWith rows key) × (others + 1 ≡ left))
