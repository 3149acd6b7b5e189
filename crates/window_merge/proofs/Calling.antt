-- What a caller of merged windows finds.
use Rattle.std.proofs.Common.{◌≡◌, ℕ, List, [], ◌∷◌, sym, subst, inl}
use Rattle.std.specs.Prelude.{Some}
use Rattle.std.specs.List.{slice_get}
use Rattle.base_core.specs.Lists.{Has}
use Rattle.fed_bytes.specs.declared.span.Span.{Span}
use Rattle.row_core.specs.declared.rows.Row.{Row}
use Rattle.row_core.specs.declared.rows.Chunk.{Chunk}
use Rattle.window_merge.specs.Values.{IsValueAt, AreValuesAt}

first_has : (rows : List Row) (row : Row) → slice_get rows 0 ≡ Some row → Has rows row
first_has [] row e = cc
first_has (first ∷ rows) row e = let same : first ≡ row = cc in inl same

pub first_value_is : (rows : List Row) (span : Span) (time most : ℕ) (chunk : Chunk) (seen : List Row) (row made : Row) → AreValuesAt rows span time most chunk → seen ≡ chunk.rows
    → slice_get seen 0 ≡ Some row → made ≡ row → IsValueAt rows time made
first_value_is rows span time most chunk seen row made is same first copied =
    let Stands : List Row → Type 0 = λ list. Has list row in
    subst (IsValueAt rows time) (sym copied) ((is.exactly row).0 (subst Stands same (first_has seen row first))).0
