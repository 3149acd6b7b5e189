-- Windows of which nothing is pruned have all rows of the history that are within them.
use Rattle.std.proofs.Common.{◌≡◌, ℕ, min, List, Option, Some, None, ◌↔◌, refl, sym, subst, arith}
use Rattle.base_core.specs.Lists.{Has}
use Rattle.fed_bytes.specs.Keys.{IsIn}
use Rattle.row_core.specs.declared.rows.Index.{Index}
use Rattle.row_core.specs.declared.rows.Row.{Row}
use Rattle.row_core.specs.Rows.{IsWithin, IsLast}
use Rattle.row_core.proofs.Lists.{of_each, each}
use Rattle.change_model.specs.History.{History}
use Rattle.change_model.specs.IndexRows.{IsRow}
use Rattle.change_model.specs.Laws.{IsWritable}
use Rattle.change_model.specs.Windows.{WindowData, IsRowAbove, IsLastAbove, MayBeFound, AnswersFor, WindowStandsFor}
use Rattle.change_model.specs.WindowLaws.{IsRowWithin, IsUnpruned, UnprunedWindowLaw, IsWholeWindow, WholeWindowLaw}
use Rattle.change_model.proofs.Rows.{IsRow-time}
use Rattle.change_model.proofs.Newest.{IsRow-one}
use Rattle.change_model.proofs.WindowAnswers.{IsNewest-moved, newest_of_last, some_last, MayBeFound-itself}

-- all rows of the history that are within the window
abbrev AreExact : Index → History → WindowData → Type 0
AreExact index history window = (row : Row) → (Has window.rows row ↔ IsRowWithin index history window row)

-- what is found among them is the last
exact_answers : (index : Index) (history : History) (window : WindowData) (key : List ℕ) (time : ℕ) (found : Option Row) → AreExact index history window
    → IsIn window.span key → IsLast window.rows key time found → AnswersFor index history key window.from (min time window.upto) window.floor found
exact_answers index history window key time found exactly key_in last = record {
  last = found;
  last_is = IsNewest-moved (Has window.rows) (IsRowAbove index history window.from) key time (min time window.upto) found
      (λ row there at.
      let is = (exactly row).0 there in
      let most = at.at_most in
      let low = is.1.at_most in
      ((is.0, is.1.above), record { key_is = at.key_is; at_most = omega arith }))
      (λ row is at.
      let most = at.at_most in
      let within : IsWithin window.span window.from window.upto row =
      record { key = subst (IsIn window.span) (sym at.key_is) key_in; above = is.1; at_most = omega arith } in
      ((exactly row).1 (is.0, within), record { key_is = at.key_is; at_most = omega arith }))
      (newest_of_last window.rows key time found last);
  found_is = MayBeFound-itself window.from window.floor found;
}

exact_stands : (index : Index) (history : History) (window : WindowData) → IsUnpruned history window → AreExact index history window → WindowStandsFor index history window
exact_stands index history window unpruned exactly = record {
  window_is = record {
    in_order = unpruned.in_order;
    within = each (IsWithin window.span window.from window.upto) window.rows (λ row there. ((exactly row).0 there).1);
    times = unpruned.times;
  };
  known = unpruned.known;
  given = λ row there. ((exactly row).0 there).0;
  answers = λ key time found key_in up last. exact_answers index history window key time found exactly key_in last;
}

-- a row of the history, and what the window has for its key at its time
record IsSought (index : Index) (history : History) (window : WindowData) (row : Row) (found : Option Row) : Type 0 where
  writable : IsWritable history
  unpruned : IsUnpruned history window
  is : IsRowWithin index history window row
  found_is : IsLast window.rows row.key row.time found

-- the last row of its key at its time is the row itself
same_last : (index : Index) (history : History) (window : WindowData) (row newest : Row) → IsWritable history → IsRowWithin index history window row
    → IsLastAbove index history row.key window.from (min row.time window.upto) (Some newest) → newest ≡ row
same_last index history window row newest writable is last =
    let above = is.1.above in
    let within = is.1.at_most in
    let low = last.1.at_most in
    let high = last.2 row (is.0, above) (record { key_is = refl; at_most = omega arith }) in
    IsRow-one index history newest row writable last.0.0 is.0 last.1.key_is (omega arith)

found_there : (index : Index) (history : History) (window : WindowData) (row : Row) (last found : Option Row) → IsSought index history window row found
    → IsLastAbove index history row.key window.from (min row.time window.upto) last → MayBeFound window.from window.floor last found → Has window.rows row
found_there index history window row last (Some found) sought last_is same =
    subst (Has window.rows)
    (same_last index history window row found sought.writable sought.is (subst (IsLastAbove index history row.key window.from (min row.time window.upto)) same last_is))
    sought.found_is.0
found_there index history window row None None sought last_is none =
    let within = sought.is.1.at_most in absurd (last_is row (sought.is.0, sought.is.1.above) (record { key_is = refl; at_most = omega arith }))
found_there index history window row (Some newest) None sought last_is dropped =
    let above = last_is.0.1 in
    let low = dropped.low in
    let floor = sought.unpruned.floor in absurd (omega arith)

has_row : (index : Index) (history : History) (window : WindowData) → IsWritable history → IsUnpruned history window → WindowStandsFor index history window
    → (row : Row) → IsRowWithin index history window row → Has window.rows row
has_row index history window writable unpruned stands row is =
    let (found, last) = some_last window.rows row.key row.time in
    let floor = unpruned.floor in
    let above = is.1.above in
    let answers = stands.answers row.key row.time found is.1.key (omega arith) last in
    found_there index history window row answers.last found (record { writable = writable; unpruned = unpruned; is = is; found_is = last }) answers.last_is answers.found_is

pub unpruned_window_law : UnprunedWindowLaw
unpruned_window_law index history window writable unpruned = (
  λ stands row. (
    λ there. (stands.given row there, of_each (IsWithin window.span window.from window.upto) window.rows stands.window_is.within row there),
    has_row index history window writable unpruned stands row,
  ),
  exact_stands index history window unpruned,
)

-- ---- over all keys and times

whole_unpruned : (history : History) (window : WindowData) → IsWholeWindow history window → IsUnpruned history window
whole_unpruned history window whole =
    let from = whole.from in
    let upto = whole.upto in
    let floor = whole.floor in record { times = omega arith; known = omega arith; floor = omega arith; in_order = whole.in_order }

-- each row of the history is within the window
all_within : (index : Index) (history : History) (window : WindowData) → IsWholeWindow history window → (row : Row) → IsRow index history row → IsRowWithin index history window row
all_within index history window whole row is =
    let (made, within) = IsRow-time index history row is in
    let from = whole.from in
    let upto = whole.upto in (is, record { key = whole.every_key row.key; above = omega arith; at_most = omega arith })

pub whole_window_law : WholeWindowLaw
whole_window_law index history window writable whole =
    let law = unpruned_window_law index history window writable (whole_unpruned history window whole) in
    let all = all_within index history window whole in (
      λ stands row. (λ there. ((law.0 stands row).0 there).0, λ is. (law.0 stands row).1 (all row is)),
      λ exactly. law.1 (λ row. (λ there. all row ((exactly row).0 there), λ is. (exactly row).1 is.0)),
    )
