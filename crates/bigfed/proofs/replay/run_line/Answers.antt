use Rattle.std.proofs.Common.{IfOk, subst}
use Rattle.work_text.specs.declared.docs.Doc.{Doc}
use Rattle.change_model.specs.declared.history.Kind.TheVariants.{Add, Remove}
use Rattle.change_model.specs.declared.history.Origin.{Origin}
use Rattle.change_model.specs.History.{History}
use Rattle.bigfed.specs.Legal.{ChangeStep, QueryFileStep}
use Rattle.bigfed.specs.Standing.{StoreStandsFor}
use Rattle.bigfed.specs.Documents.{docs_of}
use Rattle.bigfed.proofs.Steps.{asked, document_asked}
use Rattle.bigfed.proofs.replay.run_line.Goals as goal

pub returns-in-Load-clause-step : goal.returns-in-Load-clause-step
returns-in-Load-clause-step c history stands =
    let origin : Origin = record { session = c.args.line.now.session; command = c.args.place } in
    rw c.in-Load.is (subst (λ (d : Doc). IfOk c.change.result (λ outcome. (after : History) × ChangeStep Add d origin history outcome after × StoreStandsFor c.change.new.self after))
    c.document_in-doc.ensures (c.change.ensures.step history stands))

pub returns-in-Unload-clause-step : goal.returns-in-Unload-clause-step
returns-in-Unload-clause-step c history stands =
    let origin : Origin = record { session = c.args.line.now.session; command = c.args.place } in
    rw c.in-Unload.is (subst (λ (d : Doc). IfOk c.change-in-Unload.result (λ outcome. (after : History) × ChangeStep Remove d origin history outcome after × StoreStandsFor c.change-in-Unload.new.self after))
    c.document_in-doc-in-Unload.ensures (c.change-in-Unload.ensures.step history stands))

pub returns-in-Query-clause-step : goal.returns-in-Query-clause-step
returns-in-Query-clause-step c history stands =
    let step = rw c.items.ensures at (c.query.ensures history stands) in
    rw c.in-Query.is (asked c.query.result c.args.store.now (docs_of c.args.docs.now) (record { session = c.args.line.now.session; command = c.args.place })
    c.in-Query.text history stands step)

pub returns-clause-step : goal.returns-clause-step
returns-clause-step c history stands =
    let step = subst (λ (d : Doc). IfOk c.query_document.result (QueryFileStep d history)) c.document_in.ensures (c.query_document.ensures history stands) in
    rw c.in-QueryFile.is (document_asked c.query_document.result c.args.store.now (docs_of c.args.docs.now)
    (record { session = c.args.line.now.session; command = c.args.place }) c.in-QueryFile.name history stands step)
