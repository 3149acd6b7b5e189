-- A window narrowed to a part of its span.
use Rattle.std.proofs.Common.{ℕ, List, Option, Some, None, refl, sym, subst}
use Rattle.base_core.specs.Lists.{Has}
use Rattle.fed_bytes.specs.Keys.{IsIn}
use Rattle.row_core.specs.declared.rows.Index.{Index}
use Rattle.row_core.specs.declared.rows.Row.{Row}
use Rattle.row_core.specs.Rows.{IsWithin, IsLast}
use Rattle.row_core.proofs.Lists.{of_each, each}
use Rattle.change_model.specs.History.{History}
use Rattle.change_model.specs.Windows.{WindowData, WindowStandsFor}
use Rattle.change_model.specs.WindowLaws.{NarrowedWindowLaw, IsNarrowed}
use Rattle.change_model.proofs.WindowSteps.{same_window}

-- the last row of a key of the narrower span is the same in both
wide_last : (window narrowed : WindowData) (key : List ℕ) (time : ℕ) (found : Option Row) → IsNarrowed window narrowed → IsIn narrowed.span key
    → IsLast narrowed.rows key time found → IsLast window.rows key time found
wide_last window narrowed key time None is key_in last =
    λ row there at. last row ((is.has row).1 (there, subst (IsIn narrowed.span) (sym at.key_is) key_in)) at
wide_last window narrowed key time (Some found) is key_in last = (
  ((is.has found).0 last.0).0,
  last.1,
  λ row there at. last.2 row ((is.has row).1 (there, subst (IsIn narrowed.span) (sym at.key_is) key_in)) at,
)

narrow_within : (index : Index) (history : History) (window narrowed : WindowData) → WindowStandsFor index history window → IsNarrowed window narrowed
    → (row : Row) → Has narrowed.rows row → IsWithin narrowed.span window.from window.upto row
narrow_within index history window narrowed stands is row there =
    let has = (is.has row).0 there in
    let was = of_each (IsWithin window.span window.from window.upto) window.rows stands.window_is.within row has.0 in
    record { key = has.1; above = was.above; at_most = was.at_most }

narrow_stands : (index : Index) (history : History) (window narrowed : WindowData) → WindowStandsFor index history window → IsNarrowed window narrowed
    → WindowStandsFor index history (record { span = narrowed.span; from = window.from; upto = window.upto; floor = window.floor; rows = narrowed.rows })
narrow_stands index history window narrowed stands is = record {
  window_is = record {
    in_order = is.in_order;
    within = each (IsWithin narrowed.span window.from window.upto) narrowed.rows (narrow_within index history window narrowed stands is);
    times = stands.window_is.times;
  };
  known = stands.known;
  given = λ row there. stands.given row ((is.has row).0 there).0;
  answers = λ key time found key_in up last. stands.answers key time found (is.narrower key key_in) up (wide_last window narrowed key time found is key_in last);
}

pub narrowed_window_law : NarrowedWindowLaw
narrowed_window_law index history window narrowed stands is =
    subst (WindowStandsFor index history) (same_window narrowed narrowed.span window.from window.upto window.floor refl is.from is.upto is.floor)
    (narrow_stands index history window narrowed stands is)
