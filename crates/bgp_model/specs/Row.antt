-- The printed line of a solution (SPARQL 1.1 Query Results CSV and TSV Formats, section 4).
use Rattle.std.specs.Prelude.{ℕ, List, [], ◌∷◌, ◌++◌, Option}
use Rattle.std.specs.List.{flat_map}
use Rattle.term_core.specs.declared.term.Term.{Term}
use Rattle.nt_text.specs.Cell.{cell_of}

-- the cells, with tabs between them
unfoldable pub line_of : List (Option Term) → List ℕ
line_of [] = []
line_of (first ∷ others) = cell_of first ++ flat_map (λ value. 9 ∷ cell_of value) others
