-- A table's lines are those of its rows, and its rows stand one behind the other.
use Rattle.std.proofs.Common.{◌≡◌, ℕ, zero, suc, ◌+◌, ◌*◌, ◌≤◌, List, [], ◌∷◌, ◌++◌, length, map, take, drop, get_or, Option, Some, None, append_assoc, refl, sym, ap, ◌∙◌, arith}
use Rattle.std.specs.List.{slice_get, flat_map, range_with_len, AllByRecursion}
use Rattle.std.proofs.lemmas.List.{append-nil, drop-drop, take_all}
use Rattle.std.proofs.lemmas.Simd.{map-map}
use Rattle.base_core.specs.Flat.{rows_in}
use Rattle.term_core.specs.declared.term.Term.{Term}
use Rattle.term_core.specs.Term.{IsTerm}
use Rattle.nt_text.specs.Cell.{cell, cell_of, IsCell}
use Rattle.bgp_model.specs.declared.cells.Span.{Span}
use Rattle.bgp_model.specs.declared.solution.Solution.{Solution}
use Rattle.bgp_model.specs.Cells.{texts_in}
use Rattle.bgp_model.specs.Row.{line_of}
use Rattle.bgp_model.specs.Table.{cell_at, row_with, table_rows, HasTerms, lines_text, row_at, numbered_rows, text_at, placed_line}

-- ---- texts

-- with no byte behind them
pub texts_all : (bytes : List ℕ) (spans : List Span) (terms : List Term) (index : ℕ)
    → ((more : List ℕ) → texts_in (bytes ++ more) spans ≡ map cell (take index terms)) → length terms ≤ index → texts_in bytes spans ≡ map cell terms
texts_all bytes spans terms index made all =
    ap (λ (b : List ℕ). texts_in b spans) (sym (append-nil bytes)) ∙ made [] ∙ ap (map cell) (take_all index terms all)

-- the text at a place is the cell there
pub text_at-cell : (terms : List Term) (place : Option ℕ) → text_at (map cell terms) place ≡ cell_of (cell_at terms place)
text_at-cell terms None = refl
text_at-cell terms (Some place) = by terms place
  where
    by : (all : List Term) (k : ℕ) → get_or (map cell all) k [] ≡ cell_of (slice_get all k)
    by [] k = refl
    by (term ∷ all) zero = refl
    by (term ∷ all) (suc k) = by all k

-- ---- lines

later_cells : (terms : List Term) (places : List (Option ℕ))
    → flat_map (λ place. 9 ∷ text_at (map cell terms) place) places ≡ flat_map (λ value. 9 ∷ cell_of value) (map (cell_at terms) places)
later_cells terms [] = refl
later_cells terms (place ∷ places) =
    ap (λ (text : List ℕ). 9 ∷ text ++ flat_map (λ p. 9 ∷ text_at (map cell terms) p) places) (text_at-cell terms place)
    ∙ ap (λ (rest : List ℕ). 9 ∷ cell_of (cell_at terms place) ++ rest) (later_cells terms places)

pub placed_line-is : (terms : List Term) (places : List (Option ℕ)) → placed_line (map cell terms) places ≡ line_of (map (cell_at terms) places)
unfolding line_of
placed_line-is terms [] = refl
placed_line-is terms (place ∷ places) =
    ap (λ (text : List ℕ). text ++ flat_map (λ p. 9 ∷ text_at (map cell terms) p) places) (text_at-cell terms place)
    ∙ ap (λ (rest : List ℕ). cell_of (cell_at terms place) ++ rest) (later_cells terms places)

pub lines_placed : (terms : List Term) (columns : ℕ) (places : List (Option ℕ)) (numbers : List ℕ)
    → flat_map (λ number. placed_line (map cell terms) (row_at columns number places) ++ 10 ∷ []) numbers ≡ lines_text (numbered_rows terms columns places numbers)
lines_placed terms columns places [] = refl
lines_placed terms columns places (number ∷ numbers) =
    ap (λ (line : List ℕ). (line ++ 10 ∷ []) ++ flat_map (λ n. placed_line (map cell terms) (row_at columns n places) ++ 10 ∷ []) numbers)
    (placed_line-is terms (row_at columns number places))
    ∙ ap (λ (rest : List ℕ). (line_of (map (cell_at terms) (row_at columns number places)) ++ 10 ∷ []) ++ rest) (lines_placed terms columns places numbers)

-- the lines of all numbers, as a loop wrote them
pub lines_written : (before after : List ℕ) (texts : List (List ℕ)) (terms : List Term) (columns : ℕ) (places : List (Option ℕ)) (numbers : List ℕ) (index : ℕ) (rows : List Solution)
    → after ≡ before ++ flat_map (λ number. placed_line texts (row_at columns number places) ++ 10 ∷ []) (take index numbers) → length numbers ≤ index
    → texts ≡ map cell terms → numbered_rows terms columns places numbers ≡ rows → after ≡ before ++ lines_text rows
lines_written before after texts terms columns places numbers index rows written all are shown =
    written
    ∙ ap (λ (ns : List ℕ). before ++ flat_map (λ number. placed_line texts (row_at columns number places) ++ 10 ∷ []) ns) (take_all index numbers all)
    ∙ ap (λ (ts : List (List ℕ)). before ++ flat_map (λ number. placed_line ts (row_at columns number places) ++ 10 ∷ []) numbers) are
    ∙ ap (λ (text : List ℕ). before ++ text) (lines_placed terms columns places numbers ∙ ap lines_text shown)

-- ---- rows

range_more : (start count : ℕ) → range_with_len start (suc count) ≡ range_with_len start count ++ (start + count) ∷ []
range_more start zero = let same : start ≡ start + 0 = omega arith in ap (λ (n : ℕ). n ∷ []) same
range_more start (suc count) =
    let same : start + 1 + count ≡ start + suc count = omega arith in
    ap (λ (ns : List ℕ). start ∷ ns) (range_more (start + 1) count ∙ ap (λ (n : ℕ). range_with_len (start + 1) count ++ n ∷ []) same)

-- one more number
pub range_pushed : (numbers new : List ℕ) (count : ℕ) → numbers ≡ range_with_len 0 count → new ≡ numbers ++ count ∷ [] → new ≡ range_with_len 0 (count + 1)
range_pushed numbers new count are pushed =
    let same : 0 + count ≡ count = omega arith in
    let next : suc count ≡ count + 1 = omega arith in
    pushed ∙ ap (λ (ns : List ℕ). ns ++ count ∷ []) are ∙ ap (λ (n : ℕ). range_with_len 0 count ++ n ∷ []) (sym same)
    ∙ sym (range_more 0 count) ∙ ap (range_with_len 0) next

rows_numbered : {A : Type 0} → (columns start count : ℕ) → (items : List A)
    → map (λ number. row_at columns number items) (range_with_len start count) ≡ rows_in columns count (drop (start * columns) items)
rows_numbered columns start zero items = refl
rows_numbered columns start (suc count) items =
    let far : (start + 1) * columns ≡ start * columns + columns = omega arith in
    ap (λ rows. row_at columns start items ∷ rows)
    (rows_numbered columns (start + 1) count items
    ∙ ap (rows_in columns count) (ap (λ (n : ℕ). drop n items) far ∙ sym (drop-drop columns (start * columns) items)))

-- the rows in the order of their numbers
pub all_numbered : (terms : List Term) (columns count : ℕ) (places : List (Option ℕ))
    → numbered_rows terms columns places (range_with_len 0 count) ≡ table_rows terms columns count places
all_numbered terms columns count places =
    sym (map-map (row_with terms) (λ (number : ℕ). row_at columns number places) (range_with_len 0 count))
    ∙ ap (map (row_with terms))
    (rows_numbered columns 0 count places
    ∙ (let none : 0 * columns ≡ 0 = omega arith in ap (λ (n : ℕ). rows_in columns count (drop n places)) none))

-- ---- terms that keep their rules

cell_kept : (terms : List Term) (place : Option ℕ) → AllByRecursion IsTerm terms → IsCell (cell_at terms place)
cell_kept terms None kept = tt
cell_kept terms (Some place) kept = by terms place kept
  where
    by : (all : List Term) (k : ℕ) → AllByRecursion IsTerm all → IsCell (slice_get all k)
    by [] k are = tt
    by (term ∷ all) zero are = are.0
    by (term ∷ all) (suc k) are = by all k are.1

cells_kept : (terms : List Term) (places : List (Option ℕ)) → AllByRecursion IsTerm terms → AllByRecursion IsCell (map (cell_at terms) places)
cells_kept terms [] kept = tt
cells_kept terms (place ∷ places) kept = (cell_kept terms place kept, cells_kept terms places kept)

rows_kept : (terms : List Term) (rows : List (List (Option ℕ))) → AllByRecursion IsTerm terms → HasTerms (map (row_with terms) rows)
rows_kept terms [] kept = tt
rows_kept terms (row ∷ rows) kept = (cells_kept terms row kept, rows_kept terms rows kept)

-- rows of terms that keep their rules have such terms
pub terms_kept : (terms : List Term) (columns count : ℕ) (places : List (Option ℕ)) → AllByRecursion IsTerm terms → HasTerms (table_rows terms columns count places)
terms_kept terms columns count places kept = rows_kept terms (rows_in columns count places) kept

-- one more that keeps a rule
pub all_pushed : {A : Type 0} → (P : A → Type 0) → (xs : List A) → (x : A) → AllByRecursion P xs → P x → AllByRecursion P (xs ++ x ∷ [])
all_pushed P [] x each one = (one, tt)
all_pushed P (y ∷ ys) x each one = (each.0, all_pushed P ys x each.1 one)
