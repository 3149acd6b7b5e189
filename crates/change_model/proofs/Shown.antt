-- A triple is in the graph exactly where the last row of its key is a value.
use Rattle.std.proofs.Common.{◌≡◌, ℕ, zero, suc, ◌≤◌, List, [], map, length, Option, Some, None, inl, inr, ◌↔◌, refl, sym, ◌∙◌, subst, arith}
use Rattle.std.specs.List.{slice_get}
use Rattle.term_core.specs.declared.statement.Statement.{Statement}
use Rattle.base_core.specs.Lists.{Has}
use Rattle.triple_keys.specs.declared.key.Ids.{Ids}
use Rattle.triple_keys.specs.declared.order.Order.{Order}
use Rattle.triple_keys.specs.Keys.{key_bytes}
use Rattle.row_core.specs.declared.rows.Row.{Row}
use Rattle.row_core.specs.declared.rows.Cell.TheVariants.{Value}
use Rattle.change_model.specs.declared.history.Kind.{Kind}
use Rattle.change_model.specs.declared.history.Kind.TheVariants.{Add, Remove}
use Rattle.change_model.specs.declared.history.Committed.{Committed}
use Rattle.change_model.specs.History.{History, bound_at, applied, graph_at}
use Rattle.change_model.specs.Lexicon.{HaveIds}
use Rattle.change_model.specs.IndexRows.{StandsIn, CellAt, cell_of, IsStatementRow, IsRow, IsLastRow}
use Rattle.change_model.specs.Laws.{IsWritable, index_of, IsValue, GraphLaw}
use Rattle.change_model.proofs.Members.{slice_get_below, Has-told}
use Rattle.change_model.proofs.Terms.{statement-told}
use Rattle.change_model.proofs.Lexicons.{HaveIds-grown, HaveIds-one_statement, HaveIds-one_ids, HaveIds-told, AreIds-from}
use Rattle.change_model.proofs.Graphs.{graph_at-next, graph_at-ids}
use Rattle.change_model.proofs.Rows.{key_bytes-same, row_of_order, StandsIn-within, IsRow-time}
use Rattle.change_model.proofs.Newest.{IsLastRow-one, IsNewest-here, IsNewest-kept}

-- a row of a key of ids says that their statement stands in its change, and had them by then
pub statement_of_row : (order : Order) (history : History) (k : ℕ) (statement : Statement) (ids : Ids) (row : Row) → IsWritable history
    → HaveIds history (length history) statement ids → IsStatementRow order history row → row.key ≡ key_bytes order ids → row.time ≡ suc k
    → StandsIn (slice_get history k) k statement × HaveIds history (suc k) statement ids
statement_of_row order history k statement ids row writable have is key time =
    let below = StandsIn-within history is.k is.statement is.stands in
    let made = is.time_is in
    let at : is.k ≡ k = omega arith in
    let whole = HaveIds-grown history (suc is.k) (length history) is.statement is.ids below is.have in
    let same = key_bytes-same order is.ids ids
    (AreIds-from history (length history) is.statement is.ids writable (omega arith) whole) (AreIds-from history (length history) statement ids writable (omega arith) have)
    (sym is.key_is ∙ key) in
    let here = subst (λ i. HaveIds history (suc is.k) is.statement i) same is.have in
    let one = HaveIds-one_statement history (suc is.k) (length history) is.statement statement ids here have in (
      subst (λ n. StandsIn (slice_get history n) n statement) at (subst (λ s. StandsIn (slice_get history is.k) is.k s) one is.stands),
      subst (λ n. HaveIds history (suc n) statement ids) at (subst (λ s. HaveIds history (suc is.k) s ids) one here),
    )

-- the last row of the ids up to the time, which is a value exactly where the graph has the statement
record IsToldBy (order : Order) (history : History) (time : ℕ) (statement : Statement) (ids : Ids) : Type 0 where
  last : Option Row
  last_is : IsLastRow (index_of order) history (key_bytes order ids) time last
  exactly : graph_at history time statement ↔ IsValue last

shown_here : (kind : Kind) (statements : List Statement) (graph : Statement → Type 0) (statement : Statement) (row : Row) → Has statements statement → row.cell ≡ cell_of kind
    → applied kind statements graph statement ↔ IsValue (Some row)
shown_here Add statements graph statement row has cell = (λ h. ([], cell), λ h. inr has)
shown_here Remove statements graph statement row has cell = (λ h. absurd (h.1 has), λ h. let value : row.cell ≡ Value h.0 = h.1 in cc)

shown_kept : (kind : Kind) (statements : List Statement) (graph : Statement → Type 0) (statement : Statement) → (Has statements statement → ⊥)
    → applied kind statements graph statement ↔ graph statement
shown_kept Add statements graph statement none = (λ h. elim h [ inl before ↦ before | inr here ↦ absurd (none here) ], λ h. inl h)
shown_kept Remove statements graph statement none = (λ h. h.0, λ h. (h, none))

-- by one more change
record IsTurn (order : Order) (history : History) (k : ℕ) (statement : Statement) (ids : Ids) (committed : Committed) : Type 0 where
  writable : IsWritable history
  within : suc k ≤ length history
  have : HaveIds history (length history) statement ids
  at : slice_get history k ≡ Some committed
  before : IsToldBy order history k statement ids

-- no row of the next time: the last row stays
kept : (order : Order) (history : History) (k : ℕ) (statement : Statement) (ids : Ids) (committed : Committed) → IsTurn order history k statement ids committed
    → (Has (map (bound_at (suc k)) committed.change.statements) statement → HaveIds history (suc k) statement ids → ⊥)
    → (graph_at history (suc k) statement ↔ graph_at history k statement) → IsToldBy order history (suc k) statement ids
kept order history k statement ids committed turn none same =
    let before = turn.before in
    record {
      last = before.last;
      last_is = IsNewest-kept (IsRow (index_of order) history) (key_bytes order ids) k before.last
          (λ row is key time.
          let says = statement_of_row order history k statement ids row turn.writable turn.have ((row_of_order order history row).0 is) key time in
          none (subst (λ entry. StandsIn entry k statement) turn.at says.0) says.1)
          before.last_is;
      exactly = (λ h. before.exactly.0 (same.0 h), λ h. same.1 (before.exactly.1 h));
    }

-- a row of the next time is the last
turned : (order : Order) (history : History) (k : ℕ) (statement : Statement) (ids : Ids) (committed : Committed) → IsTurn order history k statement ids committed
    → Has (map (bound_at (suc k)) committed.change.statements) statement → HaveIds history (suc k) statement ids → IsToldBy order history (suc k) statement ids
turned order history k statement ids committed turn has have =
    let row : Row = record { key = key_bytes order ids; time = suc k; cell = cell_of committed.change.kind } in
    let is : IsStatementRow order history row = record {
      k = k;
      statement = statement;
      ids = ids;
      stands = subst (λ entry. StandsIn entry k statement) (sym turn.at) has;
      have = have;
      cell_is = subst (λ entry. CellAt entry (cell_of committed.change.kind)) (sym turn.at) refl;
      key_is = refl;
      time_is = refl;
    } in
    let next = graph_at-next history k committed statement turn.at in
    let shown = shown_here committed.change.kind (map (bound_at (suc k)) committed.change.statements) (graph_at history k) statement row has refl in
    record {
      last = Some row;
      last_is = IsNewest-here (IsRow (index_of order) history) (key_bytes order ids) (suc k) row ((row_of_order order history row).1 is) refl refl;
      exactly = (λ h. shown.0 (next.0 h), λ h. next.1 (shown.1 h));
    }

-- a statement whose terms have no ids yet is in no graph
unknown : (history : History) (j k : ℕ) (statement : Statement) (ids : Ids) → j ≤ k → k ≤ length history → HaveIds history (length history) statement ids
    → (HaveIds history k statement ids → ⊥) → graph_at history j statement → ⊥
unknown history j k statement ids up within have none graph =
    let some = graph_at-ids history j statement graph in
    let early = HaveIds-grown history j k statement some.0 up some.1 in
    none (subst (HaveIds history k statement) (HaveIds-one_ids history k (length history) statement some.0 ids early have) early)

one_more : (order : Order) (history : History) (k : ℕ) (statement : Statement) (ids : Ids) (committed : Committed)
    → IsTurn order history k statement ids committed → IsToldBy order history (suc k) statement ids
one_more order history k statement ids committed turn =
    let bound = map (bound_at (suc k)) committed.change.statements in
    let next = graph_at-next history k committed statement turn.at in
    elim (Has-told statement-told bound statement) [
      | inl has ↦ elim (HaveIds-told history (suc k) (length history) statement ids turn.within turn.have) [
        | inl have ↦ turned order history k statement ids committed turn has have
        | inr none ↦ kept order history k statement ids committed turn (λ here have. none have) (
          λ h. absurd (unknown history (suc k) (suc k) statement ids (omega arith) turn.within turn.have none h),
          λ h. absurd (unknown history k (suc k) statement ids (omega arith) turn.within turn.have none h),
        )
      ]
      | inr none ↦ let same = shown_kept committed.change.kind bound (graph_at history k) statement none in
          kept order history k statement ids committed turn (λ here have. none here) (λ h. same.0 (next.0 h), λ h. next.1 (same.1 h))
    ]

told : (order : Order) (history : History) (time : ℕ) (statement : Statement) (ids : Ids) → IsWritable history → time ≤ length history
    → HaveIds history (length history) statement ids → IsToldBy order history time statement ids
told order history zero statement ids writable within have = record {
  last = None;
  last_is = λ row is at. let made = IsRow-time (index_of order) history row is in let most = at.at_most in omega arith;
  exactly = (λ h. absurd h, λ h. absurd h);
}
told order history (suc k) statement ids writable within have =
    let before = told order history k statement ids writable (omega arith) have in
    let there = slice_get_below history k within in
    one_more order history k statement ids there.0 (record { writable = writable; within = within; have = have; at = there.1; before = before })

-- A triple is in the graph at a time exactly where its terms have ids and its last row up to that time is a value, in
-- each of the three orders.
pub graph_law : GraphLaw
graph_law history order time statement writable within = (
  λ graph. let some = graph_at-ids history time statement graph in
      let have = HaveIds-grown history time (length history) statement some.0 within some.1 in
      let all = told order history time statement some.0 writable within have in
      record { ids = some.0; have = have; last = all.last; last_is = all.last_is; value = all.exactly.0 graph },
  λ shown. let all = told order history time statement shown.ids writable within shown.have in
      let same = IsLastRow-one (index_of order) history (key_bytes order shown.ids) time shown.last all.last writable shown.last_is all.last_is in
      all.exactly.1 (subst IsValue same shown.value),
)
