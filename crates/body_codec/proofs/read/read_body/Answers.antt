use Rattle.std.proofs.Common.{◌++◌, ℕ, List, [], length, ap, sym, subst, ◌∙◌, arith}
use Rattle.std.proofs.lemmas.Result.{err_from_is_err_and}
use Rattle.term_core.specs.declared.statement.Statement.{Statement}
use Rattle.change_model.specs.declared.history.Change.{Change}
use Rattle.body_codec.specs.Body.{head_and_terms, HasSpelling, IsBodyOf}
use Rattle.body_codec.specs.Reading.{IsBadBodyAt}
use Rattle.body_codec.proofs.Changes.{change_of}
use Rattle.body_codec.proofs.Refusals.{bad_has_cause, bad_is_no_want, bad_is_no_body, bad_is_here, one_change}
use Rattle.body_codec.proofs.Steps.{begin_all, offset_all}
use Rattle.body_codec.proofs.read.read_body.Goals as goal

pub returns-in_err-head-clause-only : goal.returns-in_err-head-clause-only
returns-in_err-head-clause-only c = λ change has is.
    let p = err_from_is_err_and c.from_residual.result c.from_residual.ensures.1 in
    rw (p.1, p.2) (bad_is_no_want c.args.bytes.now c.in_err-head.field-0.0 c.in_err-head.ensures.fault change has is)

pub returns-in_err-head-clause-fault : goal.returns-in_err-head-clause-fault
returns-in_err-head-clause-fault c =
    let p = err_from_is_err_and c.from_residual.result c.from_residual.ensures.1 in
    rw (p.1, p.2) (bad_has_cause c.args.bytes.now c.in_err-head.field-0.0 c.in_err-head.ensures.fault)

pub returns-in_err-terms-clause-only : goal.returns-in_err-terms-clause-only
returns-in_err-terms-clause-only c = λ change has is.
    let p = err_from_is_err_and c.from_residual-in_err-terms.result c.from_residual-in_err-terms.ensures.1 in
    let bad = subst (λ (l : List ℕ). IsBadBodyAt l c.in_err-terms.field-0.0) (sym c.in_ok-head.ensures.found) c.in_err-terms.ensures.fault in
    rw (p.1, p.2) (bad_is_no_want c.args.bytes.now c.in_err-terms.field-0.0 bad change has is)

pub returns-in_err-terms-clause-fault : goal.returns-in_err-terms-clause-fault
returns-in_err-terms-clause-fault c =
    let p = err_from_is_err_and c.from_residual-in_err-terms.result c.from_residual-in_err-terms.ensures.1 in
    let bad = subst (λ (l : List ℕ). IsBadBodyAt l c.in_err-terms.field-0.0) (sym c.in_ok-head.ensures.found) c.in_err-terms.ensures.fault in
    rw (p.1, p.2) (bad_has_cause c.args.bytes.now c.in_err-terms.field-0.0 bad)

pub returns-in_err-statements-clause-only : goal.returns-in_err-statements-clause-only
returns-in_err-statements-clause-only c = λ change has is.
    let p = err_from_is_err_and c.from_residual-in_err-statements.result c.from_residual-in_err-statements.ensures.1 in
    let head = c.in_ok-head.head in
    let terms = c.in_ok-terms.terms in
    let begin = begin_all c.args.bytes.now (head_and_terms head.kind head.count [] ++ head.rest.now) head.kind head.count terms.terms.items c.deref.result.now terms.rest.now
    c.in_ok-head.ensures.found c.in_ok-terms.ensures.all c.deref.ensures.value c.in_ok-terms.ensures.found in
    let long = ap length c.in_ok-head.ensures.found in
    let offset = offset_all c.args.bytes.now head.kind c.deref.result.now terms.rest.now terms.at begin (omega (arith, c.in_ok-terms.ensures.at)) in
    rw (p.1, p.2) (bad_is_no_want c.args.bytes.now c.in_err-statements.field-0.0 (c.in_err-statements.ensures.fault c.args.bytes.now head.kind begin offset) change has is)

pub returns-in_err-statements-clause-fault : goal.returns-in_err-statements-clause-fault
returns-in_err-statements-clause-fault c =
    let p = err_from_is_err_and c.from_residual-in_err-statements.result c.from_residual-in_err-statements.ensures.1 in
    let head = c.in_ok-head.head in
    let terms = c.in_ok-terms.terms in
    let begin = begin_all c.args.bytes.now (head_and_terms head.kind head.count [] ++ head.rest.now) head.kind head.count terms.terms.items c.deref.result.now terms.rest.now
    c.in_ok-head.ensures.found c.in_ok-terms.ensures.all c.deref.ensures.value c.in_ok-terms.ensures.found in
    let long = ap length c.in_ok-head.ensures.found in
    let offset = offset_all c.args.bytes.now head.kind c.deref.result.now terms.rest.now terms.at begin (omega (arith, c.in_ok-terms.ensures.at)) in
    rw (p.1, p.2) (bad_has_cause c.args.bytes.now c.in_err-statements.field-0.0 (c.in_err-statements.ensures.fault c.args.bytes.now head.kind begin offset))

pub returns-clause-found : goal.returns-clause-found
returns-clause-found c =
    let head = c.in_ok-head.head in
    let terms = c.in_ok-terms.terms in
    let begin = begin_all c.args.bytes.now (head_and_terms head.kind head.count [] ++ head.rest.now) head.kind head.count terms.terms.items c.deref.result.now terms.rest.now
    c.in_ok-head.ensures.found c.in_ok-terms.ensures.all c.deref.ensures.value c.in_ok-terms.ensures.found in
    let read = change_of c.args.bytes.now head.kind c.deref.result.now terms.rest.now c.in_ok-statements.statements.items begin c.in_ok-statements.ensures.found in
    let made : List Statement → Change = λ statements. record { kind = head.kind; statements = statements } in
    let P : Change → Type 0 = λ change. HasSpelling change × IsBodyOf change c.args.bytes.now in
    subst P (sym (ap made c.of.ensures)) (read.has, read.is)

pub returns-clause-only : goal.returns-clause-only
returns-clause-only c = λ change has is.
    let head = c.in_ok-head.head in
    let terms = c.in_ok-terms.terms in
    let begin = begin_all c.args.bytes.now (head_and_terms head.kind head.count [] ++ head.rest.now) head.kind head.count terms.terms.items c.deref.result.now terms.rest.now
    c.in_ok-head.ensures.found c.in_ok-terms.ensures.all c.deref.ensures.value c.in_ok-terms.ensures.found in
    let read = change_of c.args.bytes.now head.kind c.deref.result.now terms.rest.now c.in_ok-statements.statements.items begin c.in_ok-statements.ensures.found in
    let made : List Statement → Change = λ statements. record { kind = head.kind; statements = statements } in
    ap made c.of.ensures ∙ one_change _ change c.args.bytes.now read.has has read.is is

pub returns-in_err-head-clause-bad : goal.returns-in_err-head-clause-bad
returns-in_err-head-clause-bad c = λ at is.
    let p = err_from_is_err_and c.from_residual.result c.from_residual.ensures.1 in
    rw (p.1, p.2) (bad_is_here c.args.bytes.now c.in_err-head.field-0.0 c.in_err-head.ensures.fault at is)

pub returns-in_err-terms-clause-bad : goal.returns-in_err-terms-clause-bad
returns-in_err-terms-clause-bad c = λ at is.
    let p = err_from_is_err_and c.from_residual-in_err-terms.result c.from_residual-in_err-terms.ensures.1 in
    let bad = subst (λ (l : List ℕ). IsBadBodyAt l c.in_err-terms.field-0.0) (sym c.in_ok-head.ensures.found) c.in_err-terms.ensures.fault in
    rw (p.1, p.2) (bad_is_here c.args.bytes.now c.in_err-terms.field-0.0 bad at is)

pub returns-in_err-statements-clause-bad : goal.returns-in_err-statements-clause-bad
returns-in_err-statements-clause-bad c = λ at is.
    let p = err_from_is_err_and c.from_residual-in_err-statements.result c.from_residual-in_err-statements.ensures.1 in
    let head = c.in_ok-head.head in
    let terms = c.in_ok-terms.terms in
    let begin = begin_all c.args.bytes.now (head_and_terms head.kind head.count [] ++ head.rest.now) head.kind head.count terms.terms.items c.deref.result.now terms.rest.now
    c.in_ok-head.ensures.found c.in_ok-terms.ensures.all c.deref.ensures.value c.in_ok-terms.ensures.found in
    let long = ap length c.in_ok-head.ensures.found in
    let offset = offset_all c.args.bytes.now head.kind c.deref.result.now terms.rest.now terms.at begin (omega (arith, c.in_ok-terms.ensures.at)) in
    rw (p.1, p.2) (bad_is_here c.args.bytes.now c.in_err-statements.field-0.0 (c.in_err-statements.ensures.fault c.args.bytes.now head.kind begin offset) at is)

pub returns-clause-bad : goal.returns-clause-bad
returns-clause-bad c = λ at is.
    let head = c.in_ok-head.head in
    let terms = c.in_ok-terms.terms in
    let begin = begin_all c.args.bytes.now (head_and_terms head.kind head.count [] ++ head.rest.now) head.kind head.count terms.terms.items c.deref.result.now terms.rest.now
    c.in_ok-head.ensures.found c.in_ok-terms.ensures.all c.deref.ensures.value c.in_ok-terms.ensures.found in
    let read = change_of c.args.bytes.now head.kind c.deref.result.now terms.rest.now c.in_ok-statements.statements.items begin c.in_ok-statements.ensures.found in
    absurd (bad_is_no_body c.args.bytes.now at is _ read.has read.is)
