use Rattle.std.proofs.Common.{refl, inl}
use Rattle.std.proofs.lemmas.Result.{err_from_is_err_and}
use Rattle.term_core.proofs.BadFields.{datatype_is_bad}
use Rattle.term_core.proofs.decode.read_literal.Goals as goal

pub returns-in_err-form : goal.returns-in_err-form
returns-in_err-form c =
    let p = err_from_is_err_and c.from_residual.result c.from_residual.ensures.1 in
    rw (p.1, p.2) (c.in_err-form.ensures.fault 2 (inl refl))

pub returns-in_default : goal.returns-in_default
returns-in_default c =
    let form = c.in_ok-form.field-0 in
    let is = c.in_ok-form.ensures in
    datatype_is_bad c.args.fields.now form.form.now form.rest.now form.end is.found.0 is.found.1 is.end c.in_default.ensures
