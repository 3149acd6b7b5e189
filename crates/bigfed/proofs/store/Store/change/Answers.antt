use Rattle.std.proofs.Common.{sym, ◌∙◌, refl, inl, inr}
use Rattle.bigfed.specs.Legal.{IsReadAs}
use Rattle.bigfed.proofs.Steps.{committed, changed, none_of, refused, not_changed}
use Rattle.bigfed.proofs.store.Store.change.Goals as goal

pub returns-in-Err-clause-step : goal.returns-in-Err-clause-step
returns-in-Err-clause-step c history stands =
    let cause = rw c.items.ensures at c.in-Err.ensures.fault in
    rw c.in-Bytes.is (not_changed c.refusal.result c.args.self.now history c.args.kind c.in-Bytes.bytes c.args.origin
    (refused c.refusal.result c.args.self.now history c.in-Bytes.bytes c.in-Err.fault stands cause c.refusal.ensures))

pub returns-in-Some-clause-step : goal.returns-in-Some-clause-step
returns-in-Some-clause-step c history stands =
    let says = rw c.items.ensures at c.in-Ok.ensures.found in
    let label = rw c.items.ensures at c.in-Ok.ensures.label in
    let document = c.in-Ok.document in
    let read : IsReadAs c.in-Bytes.bytes document.statements document.first_label =
    record { document = says; within = c.in-Ok.ensures.few; label = label } in
    rw c.in-Bytes.is (history, inl (document.statements, document.first_label, read, inr (c.in-Some.line, sym c.refused_label.ensures ∙ c.in-Some.is, refl, refl)), stands)

pub returns-clause-step : goal.returns-clause-step
returns-clause-step c history stands =
    let says = rw c.items.ensures at c.in-Ok.ensures.found in
    let label = rw c.items.ensures at c.in-Ok.ensures.label in
    let document = c.in-Ok.document in
    let read : IsReadAs c.in-Bytes.bytes document.statements document.first_label =
    record { document = says; within = c.in-Ok.ensures.few; label = label } in
    rw c.in-Bytes.is (changed c.commit.result c.commit.new.self history c.args.kind c.in-Bytes.bytes document.statements document.first_label c.args.origin read
    (sym c.refused_label.ensures ∙ none_of c.refused_label.result c.in_default.not-Some)
    (committed c.commit.result c.args.self.now c.commit.new.self history c.args.kind document.statements c.args.origin stands
    c.commit.ensures.time (c.commit.ensures.stands history stands)))
