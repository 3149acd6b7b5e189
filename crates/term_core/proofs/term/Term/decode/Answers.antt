use Rattle.std.proofs.Common.{Err, ap, sym, ◌∙◌}
use Rattle.std.proofs.lemmas.Result.{err_from_is_err_and}
use Rattle.term_core.specs.Decoding.{term_of}
use Rattle.term_core.proofs.Spelling.{spelling_same}
use Rattle.term_core.proofs.BadFields.{bad_spells_none, bad_is_no_want, bad_has_cause, bad_is_here}
use Rattle.term_core.proofs.term.Term.decode.Goals as goal

pub returns-in_err-parts-clause-only : goal.returns-in_err-parts-clause-only
returns-in_err-parts-clause-only c = λ term is e.
    let p = err_from_is_err_and c.from_residual.result c.from_residual.ensures.1 in
    rw (p.1, p.2) (bad_is_no_want c.args.bytes.now c.in_err-parts.field-0.0 c.in_err-parts.ensures term is e)

pub returns-in_err-parts-clause-fault : goal.returns-in_err-parts-clause-fault
returns-in_err-parts-clause-fault c =
    let p = err_from_is_err_and c.from_residual.result c.from_residual.ensures.1 in
    rw (p.1, p.2) (bad_has_cause c.args.bytes.now c.in_err-parts.field-0.0 c.in_err-parts.ensures)

pub returns-clause-only : goal.returns-clause-only
returns-clause-only c = λ term is e.
    let parts = c.in_ok-parts.ensures in
    c.in_ok-term.ensures ∙ spelling_same (term_of c.in_ok-parts.parts) term parts.0 is (sym parts.1 ∙ e)

pub returns-in_err-parts-clause-bad : goal.returns-in_err-parts-clause-bad
returns-in_err-parts-clause-bad c = λ at is.
    let p = err_from_is_err_and c.from_residual.result c.from_residual.ensures.1 in
    p.1 ∙ ap Err (p.2 ∙ bad_is_here c.args.bytes.now c.in_err-parts.field-0.0 c.in_err-parts.ensures at is)

pub returns-in_err-term-clause-bad : goal.returns-in_err-term-clause-bad
returns-in_err-term-clause-bad c = λ at is.
    let parts = c.in_ok-parts.ensures in
    absurd (bad_spells_none c.args.bytes.now at is (term_of c.in_ok-parts.parts) parts.0 parts.1)

pub returns-clause-bad : goal.returns-clause-bad
returns-clause-bad c = λ at is.
    let parts = c.in_ok-parts.ensures in
    absurd (bad_spells_none c.args.bytes.now at is (term_of c.in_ok-parts.parts) parts.0 parts.1)
