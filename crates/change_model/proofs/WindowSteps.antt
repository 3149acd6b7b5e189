-- How a window comes to stand for a history: from nothing, and time by time.
use Rattle.std.proofs.Common.{◌≡◌, ℕ, suc, ◌<◌, ◌≤◌, min, List, [], ◌++◌, length, Option, Some, None, ◌⊎◌, inl, inr, refl, sym, ◌∙◌, subst, arith, length-append}
use Rattle.base_core.specs.Lists.{Has}
use Rattle.fed_bytes.specs.declared.span.Span.{Span}
use Rattle.fed_bytes.specs.Keys.{IsIn}
use Rattle.row_core.specs.declared.rows.Index.{Index}
use Rattle.row_core.specs.declared.rows.Row.{Row}
use Rattle.row_core.specs.Rows.{StandInOrder, IsWithin, AreWithin, IsAt, IsLast}
use Rattle.row_core.proofs.Lists.{of_each, each}
use Rattle.change_model.specs.History.{History}
use Rattle.change_model.specs.IndexRows.{IsRow}
use Rattle.change_model.specs.Windows.{WindowData, IsRowAbove, AnswersFor, WindowStandsFor}
use Rattle.change_model.specs.WindowLaws.{EmptyWindowLaw, LongerHistoryLaw, RaisedFloorLaw, NextWindowLaw}
use Rattle.change_model.proofs.Rows.{IsRow-time, IsRow-append}
use Rattle.change_model.proofs.WindowAnswers.{IsNewest-moved, AnswersFor-raised, AnswersFor-later}

-- ---- no rows

pub nothing_answers : (index : Index) (history : History) (key : List ℕ) (from upto time floor : ℕ) (found : Option Row) → from ≡ upto → IsLast [] key time found
    → AnswersFor index history key from (min time upto) floor found
nothing_answers index history key from upto time floor None same last = record {
  last = None;
  last_is = λ row is at. let above = is.1 in let most = at.at_most in omega arith;
  found_is = tt;
}
nothing_answers index history key from upto time floor (Some row) same last = absurd last.0

pub empty_window_law : EmptyWindowLaw
empty_window_law index history window empty same within = record {
  window_is = record {
    in_order = subst StandInOrder (sym empty) tt;
    within = subst (AreWithin window.span window.from window.upto) (sym empty) tt;
    times = omega arith;
  };
  known = within;
  given = λ row there. absurd (subst (λ (rows : List Row). Has rows row) empty there);
  answers = λ key time found key_in up last.
      nothing_answers index history key window.from window.upto time window.floor found same (subst (λ rows. IsLast rows key time found) empty last);
}

-- ---- a longer history

pub longer_history_law : LongerHistoryLaw
longer_history_law index history more window stands =
    let known = stands.known in
    let same = λ (row : Row) (up : row.time ≤ length history). IsRow-append index history more row up in
    record {
      window_is = stands.window_is;
      known = let long = length-append history more in omega arith;
      given = λ row there. let is = stands.given row there in (same row (IsRow-time index history row is).1).1 is;
      answers = λ key time found key_in up last.
          let is = stands.answers key time found key_in up last in
          let within = λ (row : Row) (at : IsAt key (min time window.upto) row). let most = at.at_most in let low : row.time ≤ length history = omega arith in low in
          record {
            last = is.last;
            last_is = IsNewest-moved (IsRowAbove index history window.from) (IsRowAbove index (history ++ more) window.from) key (min time window.upto) (min time window.upto) is.last
                (λ row above at. (((same row (within row at)).1 above.0, above.1), at))
                (λ row above at. (((same row (within row at)).0 above.0, above.1), at))
                is.last_is;
            found_is = is.found_is;
          };
    }

-- ---- a higher floor

pub raised_floor_law : RaisedFloorLaw
raised_floor_law index history window floor stands higher = record {
  window_is = stands.window_is;
  known = stands.known;
  given = stands.given;
  answers = λ key time found key_in up last.
      AnswersFor-raised index history key window.from (min time window.upto) window.floor floor found higher (stands.answers key time found key_in (omega arith) last);
}

-- ---- the next time

-- the rows of a window and those of the next time
record IsStep (index : Index) (history : History) (window : WindowData) (rows : List Row) : Type 0 where
  stands : WindowStandsFor index history window
  known : suc window.upto ≤ length history
  in_order : StandInOrder rows
  old : (row : Row) → Has window.rows row → Has rows row
  new : (row : Row) → IsIn window.span row.key → IsRow index history row → row.time ≡ suc window.upto → Has rows row
  only : (row : Row) → Has rows row → Has window.rows row ⊎ (IsRow index history row × (row.time ≡ suc window.upto) × IsIn window.span row.key)

within_step : (index : Index) (history : History) (window : WindowData) (rows : List Row) → IsStep index history window rows
    → (row : Row) → Has rows row → IsWithin window.span window.from (suc window.upto) row
within_step index history window rows step row there =
    let times = step.stands.window_is.times in
    elim (step.only row there) [
      | inl old ↦ let was = of_each (IsWithin window.span window.from window.upto) window.rows step.stands.window_is.within row old in
          let above = was.above in let most = was.at_most in record { key = was.key; above = above; at_most = omega arith }
      | inr new ↦ let time = new.1 in record { key = new.2; above = omega arith; at_most = omega arith }
    ]

given_step : (index : Index) (history : History) (window : WindowData) (rows : List Row) → IsStep index history window rows
    → (row : Row) → Has rows row → IsRow index history row
given_step index history window rows step row there = elim (step.only row there) [ inl old ↦ step.stands.given row old | inr new ↦ new.0 ]

-- where the old rows answer as before, for the key has none of the new time
old_answers : (index : Index) (history : History) (window : WindowData) (rows : List Row) (key : List ℕ) (time : ℕ) (found : Option Row)
    → IsStep index history window rows → IsIn window.span key → window.floor ≤ time
    → ((row : Row) → Has rows row → IsAt key time row → window.upto < row.time → ⊥) → IsLast window.rows key time found
    → AnswersFor index history key window.from (min time (suc window.upto)) window.floor found
old_answers index history window rows key time found step key_in up none last =
    AnswersFor-later index history key window.from (min time window.upto) (min time (suc window.upto)) window.floor found (omega arith)
    (λ row is key_is above most.
    none row (step.new row (subst (IsIn window.span) (sym key_is) key_in) is (omega arith)) (record { key_is = key_is; at_most = omega arith }) (omega arith))
    (step.stands.answers key time found key_in up last)

step_answers : (index : Index) (history : History) (window : WindowData) (rows : List Row) (key : List ℕ) (time : ℕ) (found : Option Row)
    → IsStep index history window rows → IsIn window.span key → window.floor ≤ time → IsLast rows key time found
    → AnswersFor index history key window.from (min time (suc window.upto)) window.floor found
step_answers index history window rows key time None step key_in up last =
    old_answers index history window rows key time None step key_in up (λ row there at late. last row there at) (λ row there at. last row (step.old row there) at)
step_answers index history window rows key time (Some row) step key_in up last =
    let times = step.stands.window_is.times in
    let most = last.1.at_most in
    elim (step.only row last.0) [
      | inl old ↦ let was = of_each (IsWithin window.span window.from window.upto) window.rows step.stands.window_is.within row old in
          let low = was.at_most in
          old_answers index history window rows key time (Some row) step key_in up
          (λ other there at late. let newest = last.2 other there at in omega arith)
          (old, last.1, λ other there at. last.2 other (step.old other there) at)
      | inr new ↦ let at_time = new.1 in record {
        last = Some row;
        last_is = (
          (new.0, omega arith),
          record { key_is = last.1.key_is; at_most = omega arith },
          λ other there at. let low = at.at_most in omega arith,
        );
        found_is = refl;
      }
    ]

step_stands : (index : Index) (history : History) (window : WindowData) (rows : List Row) → IsStep index history window rows
    → WindowStandsFor index history (record { span = window.span; from = window.from; upto = suc window.upto; floor = window.floor; rows = rows })
step_stands index history window rows step =
    let times = step.stands.window_is.times in
    record {
      window_is = record {
        in_order = step.in_order;
        within = each (IsWithin window.span window.from (suc window.upto)) rows (within_step index history window rows step);
        times = omega arith;
      };
      known = step.known;
      given = given_step index history window rows step;
      answers = λ key time found key_in up last. step_answers index history window rows key time found step key_in up last;
    }

-- a window by its parts
pub same_window : (window : WindowData) (span : Span) (from upto floor : ℕ) → window.span ≡ span → window.from ≡ from → window.upto ≡ upto → window.floor ≡ floor
    → record { span = span; from = from; upto = upto; floor = floor; rows = window.rows } ≡ window
same_window window span from upto floor s f u l = λ i. record { span = sym s i; from = sym f i; upto = sym u i; floor = sym l i; rows = window.rows }

pub next_window_law : NextWindowLaw
next_window_law index history window next added stands is known given =
    let upto = is.upto in
    let given_next = λ (row : Row) (key : IsIn window.span row.key). given row key in
    let step : IsStep index history window next.rows = record {
      stands = stands;
      known = omega arith;
      in_order = is.rows.in_order;
      old = λ row there. (is.rows.has row).1 (inl there);
      new = λ row key made time. (is.rows.has row).1 (inr ((given_next row key).1 (made, time ∙ sym upto), key));
      only = λ row there. elim ((is.rows.has row).0 there) [
        | inl old ↦ inl old
        | inr new ↦ let made = (given_next row new.1).0 new.0 in inr (made.0, made.1 ∙ upto, new.1)
      ];
    } in
    subst (WindowStandsFor index history) (same_window next window.span window.from (suc window.upto) window.floor is.span is.from is.upto is.floor)
    (step_stands index history window next.rows step)
