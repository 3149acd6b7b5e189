-- The rows of an answer, in which each distinct term stands once and cells name it by its place.
use Rattle.std.specs.Prelude.{◌≡◌, ℕ, ◌*◌, List, [], ◌++◌, ◌∷◌, map, take, drop, Option, Some, None, slice_index_or}
use Rattle.std.specs.List.{slice_get, flat_map, AllByRecursion}
use Rattle.std.specs.Ordering.{nat_cmp}
use Rattle.std.specs.Cmp.Lexicographic.{slice_cmp}
use Rattle.base_core.specs.Flat.{rows_in}
use Rattle.term_core.specs.declared.term.Term.{Term}
use Rattle.nt_text.specs.Cell.{IsCell}
use Rattle.bgp_model.specs.declared.solution.Solution.{Solution}
use Rattle.bgp_model.specs.Row.{line_of}

-- ---- rows

-- the term of the place; a place that has none is that of an unbound variable
abbrev pub cell_at : List Term → Option ℕ → Option Term
cell_at terms None = None
cell_at terms (Some place) = slice_get terms place

abbrev pub row_with : List Term → List (Option ℕ) → Solution
row_with terms places = record { cells = map (cell_at terms) places }

-- the solutions of so many rows of so many columns, whose places stand row by row
abbrev pub table_rows : List Term → ℕ → ℕ → List (Option ℕ) → List Solution
table_rows terms columns count places = map (row_with terms) (rows_in columns count places)

-- each cell is empty, or has a term that keeps its rules
abbrev pub HasTerms : List Solution → Type 0
HasTerms rows = AllByRecursion (λ row. AllByRecursion IsCell row.cells) rows

-- the lines of the rows, each with its end
abbrev pub lines_text : List Solution → List ℕ
lines_text rows = flat_map (λ row. line_of row.cells ++ 10 ∷ []) rows

-- ---- what the table is made of

-- the items of the row of this number, from 0, in a flat list
abbrev pub row_at : {A : Type 0} → ℕ → ℕ → List A → List A
row_at columns number items = take columns (drop (number * columns) items)

-- the rows of these numbers, in this order
abbrev pub numbered_rows : List Term → ℕ → List (Option ℕ) → List ℕ → List Solution
numbered_rows terms columns places numbers = map (λ number. row_with terms (row_at columns number places)) numbers

-- the text of a cell, by the texts of the terms
abbrev pub text_at : List (List ℕ) → Option ℕ → List ℕ
text_at texts None = []
text_at texts (Some place) = slice_index_or texts place []

abbrev pub rank_at : List ℕ → Option ℕ → ℕ
rank_at ranks None = 0
rank_at ranks (Some place) = slice_index_or ranks place 0

-- numbers that compare as the texts do
abbrev pub AreRanks : List (List ℕ) → List ℕ → Type 0
AreRanks texts ranks =
    (one other : Option ℕ) → nat_cmp (rank_at ranks one) (rank_at ranks other) ≡ slice_cmp nat_cmp (text_at texts one) (text_at texts other)

-- the line of a row, by the texts of the terms
abbrev pub placed_line : List (List ℕ) → List (Option ℕ) → List ℕ
placed_line texts [] = []
placed_line texts (first ∷ others) = text_at texts first ++ flat_map (λ place. 9 ∷ text_at texts place) others
