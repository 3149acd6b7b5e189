-- Two adjacent windows that stand for a history, taken as one.
use Rattle.std.proofs.Common.{◌≡◌, ℕ, ◌≤◌, min, max, List, Option, Some, None, ◌⊎◌, inl, inr, ◌↔◌, sym, subst, arith}
use Rattle.base_core.specs.Lists.{Has}
use Rattle.fed_bytes.specs.Keys.{IsIn}
use Rattle.row_core.specs.declared.rows.Index.{Index}
use Rattle.row_core.specs.declared.rows.Row.{Row}
use Rattle.row_core.specs.Rows.{StandInOrder, IsWithin, IsLast}
use Rattle.row_core.proofs.Lists.{of_each, each}
use Rattle.change_model.specs.History.{History}
use Rattle.change_model.specs.Windows.{WindowData, AnswersFor, WindowStandsFor}
use Rattle.change_model.specs.WindowLaws.{JoinedWindowLaw}
use Rattle.change_model.proofs.WindowAnswers.{AnswersFor-raised, AnswersFor-earlier, AnswersFor-joined}
use Rattle.change_model.proofs.WindowSteps.{same_window}

-- two adjacent windows, and the rows of both
record IsPair (index : Index) (history : History) (older newer : WindowData) (rows : List Row) : Type 0 where
  first : WindowStandsFor index history older
  second : WindowStandsFor index history newer
  adjacent : newer.from ≡ older.upto
  one_span : newer.span ≡ older.span
  in_order : StandInOrder rows
  has : (row : Row) → (Has rows row ↔ (Has older.rows row ⊎ Has newer.rows row))

old_within : (index : Index) (history : History) (older newer : WindowData) (rows : List Row) → IsPair index history older newer rows
    → (row : Row) → Has older.rows row → IsWithin older.span older.from older.upto row
old_within index history older newer rows pair = of_each (IsWithin older.span older.from older.upto) older.rows pair.first.window_is.within

new_within : (index : Index) (history : History) (older newer : WindowData) (rows : List Row) → IsPair index history older newer rows
    → (row : Row) → Has newer.rows row → IsWithin newer.span newer.from newer.upto row
new_within index history older newer rows pair = of_each (IsWithin newer.span newer.from newer.upto) newer.rows pair.second.window_is.within

both_within : (index : Index) (history : History) (older newer : WindowData) (rows : List Row) → IsPair index history older newer rows
    → (row : Row) → Has rows row → IsWithin older.span older.from newer.upto row
both_within index history older newer rows pair row there =
    let begins = pair.first.window_is.times in
    let ends = pair.second.window_is.times in
    let adjacent = pair.adjacent in
    elim ((pair.has row).0 there) [
      | inl old ↦ let was = old_within index history older newer rows pair row old in
          let above = was.above in let most = was.at_most in record { key = was.key; above = above; at_most = omega arith }
      | inr new ↦ let was = new_within index history older newer rows pair row new in
          let above = was.above in let most = was.at_most in
          record { key = subst (λ span. IsIn span row.key) pair.one_span was.key; above = omega arith; at_most = most }
    ]

-- what the newer window answers
newer_answers : (index : Index) (history : History) (older newer : WindowData) (rows : List Row) (key : List ℕ) (time : ℕ) (found : Option Row)
    → IsPair index history older newer rows → IsIn older.span key → max older.floor newer.floor ≤ time → IsLast newer.rows key time found
    → AnswersFor index history key older.upto (min time newer.upto) (max older.floor newer.floor) found
newer_answers index history older newer rows key time found pair key_in up last =
    subst (λ from. AnswersFor index history key from (min time newer.upto) (max older.floor newer.floor) found) pair.adjacent
    (AnswersFor-raised index history key newer.from (min time newer.upto) newer.floor (max older.floor newer.floor) found (omega arith)
    (pair.second.answers key time found (subst (λ span. IsIn span key) (sym pair.one_span) key_in) (omega arith) last))

-- where the newer window has no row of the key, the older answers for both
older_answers : (index : Index) (history : History) (older newer : WindowData) (rows : List Row) (key : List ℕ) (time : ℕ) (found : Option Row)
    → IsPair index history older newer rows → IsIn older.span key → max older.floor newer.floor ≤ time
    → IsLast newer.rows key time None → IsLast older.rows key time found
    → AnswersFor index history key older.from (min time newer.upto) (max older.floor newer.floor) found
older_answers index history older newer rows key time found pair key_in up none last =
    let ends = pair.second.window_is.times in
    let adjacent = pair.adjacent in
    AnswersFor-joined index history key older.from older.upto newer.upto time (max older.floor newer.floor) found pair.first.window_is.times (omega arith)
    (newer_answers index history older newer rows key time None pair key_in up none)
    (AnswersFor-raised index history key older.from (min time older.upto) older.floor (max older.floor newer.floor) found (omega arith)
    (pair.first.answers key time found key_in (omega arith) last))

both_answer : (index : Index) (history : History) (older newer : WindowData) (rows : List Row) (key : List ℕ) (time : ℕ) (found : Option Row)
    → IsPair index history older newer rows → IsIn older.span key → max older.floor newer.floor ≤ time → IsLast rows key time found
    → AnswersFor index history key older.from (min time newer.upto) (max older.floor newer.floor) found
both_answer index history older newer rows key time None pair key_in up last =
    older_answers index history older newer rows key time None pair key_in up
    (λ row there at. last row ((pair.has row).1 (inr there)) at)
    (λ row there at. last row ((pair.has row).1 (inl there)) at)
both_answer index history older newer rows key time (Some row) pair key_in up last =
    let adjacent = pair.adjacent in
    elim ((pair.has row).0 last.0) [
      | inl old ↦ let low = (old_within index history older newer rows pair row old).at_most in
          older_answers index history older newer rows key time (Some row) pair key_in up
          (λ other there at. let newest = last.2 other ((pair.has other).1 (inr there)) at in
          let above = (new_within index history older newer rows pair other there).above in omega arith)
          (old, last.1, λ other there at. last.2 other ((pair.has other).1 (inl there)) at)
      | inr new ↦ AnswersFor-earlier index history key older.from older.upto (min time newer.upto) (max older.floor newer.floor) row pair.first.window_is.times
          (newer_answers index history older newer rows key time (Some row) pair key_in up
          (new, last.1, λ other there at. last.2 other ((pair.has other).1 (inr there)) at))
    ]

pair_stands : (index : Index) (history : History) (older newer : WindowData) (rows : List Row) → IsPair index history older newer rows
    → WindowStandsFor index history (record { span = older.span; from = older.from; upto = newer.upto; floor = max older.floor newer.floor; rows = rows })
pair_stands index history older newer rows pair =
    let begins = pair.first.window_is.times in
    let ends = pair.second.window_is.times in
    let adjacent = pair.adjacent in
    record {
      window_is = record {
        in_order = pair.in_order;
        within = each (IsWithin older.span older.from newer.upto) rows (both_within index history older newer rows pair);
        times = omega arith;
      };
      known = pair.second.known;
      given = λ row there. elim ((pair.has row).0 there) [ inl old ↦ pair.first.given row old | inr new ↦ pair.second.given row new ];
      answers = λ key time found key_in up last. both_answer index history older newer rows key time found pair key_in up last;
    }

pub joined_window_law : JoinedWindowLaw
joined_window_law index history older newer joined first second are =
    let pair : IsPair index history older newer joined.rows =
    record { first = first; second = second; adjacent = are.adjacent; one_span = are.one_span; in_order = are.in_order; has = are.has } in
    subst (WindowStandsFor index history) (same_window joined older.span older.from newer.upto (max older.floor newer.floor) are.span are.from are.upto are.floor)
    (pair_stands index history older newer joined.rows pair)
