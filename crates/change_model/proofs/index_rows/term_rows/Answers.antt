use Rattle.change_model.specs.EntryRows.{term_row}
use Rattle.change_model.proofs.EntryChanges.{made_changes}
use Rattle.change_model.proofs.EntryRowLists.{row_yielded}
use Rattle.change_model.proofs.index_rows.term_rows.Goals as goal

pub terms-preserved : goal.terms-preserved
terms-preserved c =
    row_yielded (term_row c.args.time) c.terms.yielded c.in-Some.term c.terms.rows.items c.push.new.self.items c.in_ok-term_row.field-0 c.terms.invariant c.in_ok-term_row.ensures c.in_ok-push.ensures.items

pub returns-clause-changes : goal.returns-clause-changes
returns-clause-changes c = made_changes c.args.time c.terms.yielded c.terms.rows.items c.by_key.result c.terms.invariant c.by_key.ensures.order c.by_key.ensures.kept
