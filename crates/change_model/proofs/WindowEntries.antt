-- The rows of an entry are those that the history gives to a window at its time.
use Rattle.std.proofs.Common.{◌≡◌, ℕ, ◌≤◌, List, length, take, drop, ◌↔◌, subst, arith}
use Rattle.std.proofs.lemmas.List.{take-append-drop, length-take-le}
use Rattle.fed_bytes.specs.declared.span.Span.{Span}
use Rattle.row_core.specs.declared.rows.Index.{Index}
use Rattle.row_core.specs.declared.rows.Index.TheVariants.{T2i, I2t, Spo, Pos, Osp}
use Rattle.row_core.specs.declared.rows.Row.{Row}
use Rattle.change_model.specs.Entries.{AreRowsOf, GivenEntryLaw}
use Rattle.change_model.specs.History.{History}
use Rattle.change_model.specs.IndexRows.{IsRow}
use Rattle.change_model.specs.WindowLaws.{AreGivenAt}
use Rattle.change_model.proofs.Rows.{IsRow-append}

-- the rows of a beginning at its last time are those of the whole
given_rows : (index : Index) (history : History) (span : Span) (time : ℕ) (rows : List Row) → time ≤ length history → AreRowsOf index (take time history) time rows
    → AreGivenAt index history span time rows
given_rows index history span time rows within are row key =
    let front : History = take time history in
    let long : length front ≡ time = length-take-le time history within in
    let same : row.time ≡ time → (IsRow index history row ↔ IsRow index front row) =
    λ at. let low : row.time ≤ length front = omega arith in
    subst (λ (h : History). IsRow index h row ↔ IsRow index front row) (take-append-drop time history) (IsRow-append index front (drop time history) row low) in (
      λ has. let is = (are.exactly row).0 has in ((same is.1).1 is.0, is.1),
      λ is. (are.exactly row).1 ((same is.1).0 is.0, is.1),
    )

pub given_entry : GivenEntryLaw
given_entry T2i history span entry at = given_rows T2i history span entry.time entry.t2i at.known at.last.t2i
given_entry I2t history span entry at = given_rows I2t history span entry.time entry.i2t at.known at.last.i2t
given_entry Spo history span entry at = given_rows Spo history span entry.time entry.spo at.known at.last.spo
given_entry Pos history span entry at = given_rows Pos history span entry.time entry.pos at.known at.last.pos
given_entry Osp history span entry at = given_rows Osp history span entry.time entry.osp at.known at.last.osp
