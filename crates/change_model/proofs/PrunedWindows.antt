-- A window that is pruned up to a floor.
use Rattle.std.proofs.Common.{ℕ, ◌≤◌, min, List, Option, Some, None, inl, inr, refl, sym, ◌∙◌, subst, arith}
use Rattle.std.proofs.lemmas.Bool.{cases_lt}
use Rattle.base_core.specs.Lists.{Has}
use Rattle.fed_bytes.specs.Keys.{IsIn}
use Rattle.row_core.specs.declared.rows.Index.{Index}
use Rattle.row_core.specs.declared.rows.Row.{Row}
use Rattle.row_core.specs.Rows.{IsWithin, IsAt, IsLast}
use Rattle.row_core.proofs.Lists.{of_each, each}
use Rattle.change_model.specs.History.{History}
use Rattle.change_model.specs.Windows.{WindowData, MayBeDropped, AnswersFor, WindowStandsFor}
use Rattle.change_model.specs.WindowLaws.{PrunedWindowLaw, CountsFrom, IsPruned}
use Rattle.change_model.proofs.WindowAnswers.{AnswersFor-raised, AnswersFor-row, some_last}
use Rattle.change_model.proofs.WindowSteps.{same_window}

-- the last row of a key from the floor on counts
last_counts : (rows : List Row) (floor time : ℕ) (key : List ℕ) (row : Row) → floor ≤ time → IsLast rows key time (Some row) → CountsFrom floor rows row
last_counts rows floor time key row up last =
    elim (cases_lt floor row.time) [
      | inl above ↦ inl above
      | inr low ↦ inr (
        last.0,
        record { key_is = refl; at_most = low },
        λ other there at. let below = at.at_most in last.2 other there (record { key_is = at.key_is ∙ last.1.key_is; at_most = omega arith }),
      )
    ]

-- a row that counts and is found among the pruned rows is the last of all
still_last : (window pruned : WindowData) (key : List ℕ) (time : ℕ) (row : Row) → IsPruned window pruned → pruned.floor ≤ time
    → CountsFrom pruned.floor window.rows row → IsLast pruned.rows key time (Some row) → (other : Row) → Has window.rows other → IsAt key time other → other.time ≤ row.time
still_last window pruned key time row is up counts last other there at =
    elim (cases_lt pruned.floor other.time) [
      | inl above ↦ elim (is.misses other there (inl above)) [
        | inl kept ↦ last.2 other kept at
        | inr gone ↦ let low = gone.low in absurd (omega arith)
      ]
      | inr low ↦ elim counts [
        | inl above ↦ omega arith
        | inr newest ↦ newest.2 other there (record { key_is = at.key_is ∙ sym last.1.key_is; at_most = low })
      ]
    ]

-- a deletion that was dropped
dropped_answers : (index : Index) (history : History) (window : WindowData) (key : List ℕ) (time floor : ℕ) (row : Row)
    → AnswersFor index history key window.from (min time window.upto) window.floor (Some row) → MayBeDropped window.from floor row
    → AnswersFor index history key window.from (min time window.upto) floor None
dropped_answers index history window key time floor row answers gone = record {
  last = Some row;
  last_is = AnswersFor-row index history key window.from (min time window.upto) window.floor row answers;
  found_is = gone;
}

-- where the pruned rows have none of the key
none_answers : (index : Index) (history : History) (window pruned : WindowData) (key : List ℕ) (time : ℕ) (found : Option Row)
    → WindowStandsFor index history window → IsPruned window pruned → IsIn window.span key → pruned.floor ≤ time → IsLast pruned.rows key time None → IsLast window.rows key time found
    → AnswersFor index history key window.from (min time window.upto) pruned.floor None
none_answers index history window pruned key time None stands is key_in up none last =
    let floor = is.floor in
    AnswersFor-raised index history key window.from (min time window.upto) window.floor pruned.floor None floor (stands.answers key time None key_in (omega arith) last)
none_answers index history window pruned key time (Some row) stands is key_in up none last =
    let floor = is.floor in
    elim (is.misses row last.0 (last_counts window.rows pruned.floor time key row up last)) [
      | inl kept ↦ absurd (none row kept last.1)
      | inr gone ↦ dropped_answers index history window key time pruned.floor row (stands.answers key time (Some row) key_in (omega arith) last) gone
    ]

pruned_answers : (index : Index) (history : History) (window pruned : WindowData) (key : List ℕ) (time : ℕ) (found : Option Row)
    → WindowStandsFor index history window → IsPruned window pruned → IsIn window.span key → pruned.floor ≤ time → IsLast pruned.rows key time found
    → AnswersFor index history key window.from (min time window.upto) pruned.floor found
pruned_answers index history window pruned key time None stands is key_in up last =
    let (found, before) = some_last window.rows key time in none_answers index history window pruned key time found stands is key_in up last before
pruned_answers index history window pruned key time (Some row) stands is key_in up last =
    let floor = is.floor in
    let has = is.has row last.0 in
    AnswersFor-raised index history key window.from (min time window.upto) window.floor pruned.floor (Some row) floor
    (stands.answers key time (Some row) key_in (omega arith) (has.0, last.1, still_last window pruned key time row is up has.1 last))

pruned_stands : (index : Index) (history : History) (window pruned : WindowData) → WindowStandsFor index history window → IsPruned window pruned
    → WindowStandsFor index history (record { span = window.span; from = window.from; upto = window.upto; floor = pruned.floor; rows = pruned.rows })
pruned_stands index history window pruned stands is = record {
  window_is = record {
    in_order = is.in_order;
    within = each (IsWithin window.span window.from window.upto) pruned.rows
        (λ row there. of_each (IsWithin window.span window.from window.upto) window.rows stands.window_is.within row (is.has row there).0);
    times = stands.window_is.times;
  };
  known = stands.known;
  given = λ row there. stands.given row (is.has row there).0;
  answers = λ key time found key_in up last. pruned_answers index history window pruned key time found stands is key_in up last;
}

pub pruned_window_law : PrunedWindowLaw
pruned_window_law index history window pruned stands is =
    subst (WindowStandsFor index history) (same_window pruned window.span window.from window.upto pruned.floor is.span is.from is.upto refl)
    (pruned_stands index history window pruned stands is)
