use Rattle.std.proofs.Common.{◌≡◌, rules, get_or}
use Rattle.triple_keys.specs.declared.key.Ids.{Ids}
use Rattle.change_model.specs.EntryRows.{statement_row}
use Rattle.change_model.proofs.EntryRowLists.{row_more}
use Rattle.change_model.proofs.index_rows.rows_of.Goals as goal

pub statements-preserved : goal.statements-preserved
statements-preserved c =
    let none : Ids = record { subject = 0; predicate = 0; object = 0 } in
    let made : c.in_ok-statement_row.field-0 ≡ statement_row c.args.order c.args.kind c.args.time (get_or c.args.statements.now c.statements.ids-index none) = search rules in
    row_more (statement_row c.args.order c.args.kind c.args.time) c.args.statements.now c.statements.ids-index none c.statements.rows.items c.push.new.self.items c.in_ok-statement_row.field-0
    c.statements-test.true c.statements.invariant made c.in_ok-push.ensures.items
