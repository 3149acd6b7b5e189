use Rattle.std.proofs.Common.{arith}
use Rattle.term_core.proofs.BadFields.{form_in_front, length_is_short, form_is_bad, form_is_short, form_is_broken}
use Rattle.term_core.proofs.decode.read_form.Goals as goal

pub returns-in_default-clause-fault : goal.returns-in_default-clause-fault
returns-in_default-clause-fault c = length_is_short c.args.fields.now c.in_default.ensures.cut

pub returns-in_default-split_at_checked-clause-fault : goal.returns-in_default-split_at_checked-clause-fault
returns-in_default-split_at_checked-clause-fault c =
    form_is_bad c.args.fields.now c.in-Some.texts.now c.in-Some.length c.in-Some.ensures.fits c.in-Some.ensures.cut
    (form_is_short c.in-Some.texts.now c.in-Some.length c.in_default-split_at_checked.ensures.cases)

pub returns-in_default-from_utf8-clause-fault : goal.returns-in_default-from_utf8-clause-fault
returns-in_default-from_utf8-clause-fault c =
    form_is_bad c.args.fields.now c.in-Some.texts.now c.in-Some.length c.in-Some.ensures.fits c.in-Some.ensures.cut
    (form_is_broken c.in-Some.texts.now c.in-Some-split_at_checked.form.now c.in-Some.length c.in-Some-split_at_checked.ensures.cases.1 c.in_default-from_utf8.ensures.cases.0)

pub returns-clause-found : goal.returns-clause-found
returns-clause-found c =
    let parts = c.in-Some-split_at_checked.ensures.cases in
    let text = c.in-Ok.ensures.cases in
    form_in_front c.args.fields.now c.in-Some.texts.now c.in-Some-split_at_checked.form.now c.in-Some-split_at_checked.rest.now c.in-Ok.form.now
    c.in-Some.length c.in-Some.ensures.fits c.in-Some.ensures.cut parts.1 parts.2 parts.3 text.0 text.1
