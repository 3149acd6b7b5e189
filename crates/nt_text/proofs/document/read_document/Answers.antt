use Rattle.std.proofs.Common.{◌≡◌, ◌≤◌, ℕ, Option, length, refl, subst, rules}
use Rattle.nt_text.specs.Document.{IsFirstLabel}
use Rattle.std.proofs.lemmas.Result.{err_from_is_err_and}
use Rattle.base_core.specs.declared.lines.LineEnd.TheVariants.{Any}
use Rattle.base_core.specs.Lines.{lines_of}
use Rattle.nt_text.specs.Limits.{all_spelled, largest_document, most_statements, most_spelled}
use Rattle.nt_text.proofs.SpelledLengths.{document_length, within_most}
use Rattle.nt_text.proofs.Documents.{AreLinesOf-same, IsStatement-from_lines, HasNoBlankNode-from_lines, HasNoTimes-from_lines, SoFar-more, SoFar-end}
use Rattle.nt_text.proofs.BadLines.{fault_cause, fault_only, no_bad_line, fault_is}
use Rattle.nt_text.proofs.document.read_document.Goals as goal

pub returns-in_err-brought-clause-fault : goal.returns-in_err-brought-clause-fault
returns-in_err-brought-clause-fault c =
    let p = err_from_is_err_and c.from_residual.result c.from_residual.ensures.1 in
    let counted : c.len.result ≡ length c.lines.statements.items = search rules in
    rw (p.1, p.2) (fault_cause c.args.bytes.now c.lines.rest.now c.lines.number c.lines.first_label c.lines.statements.items c.in-Some.line.now c.in-Some.behind.now
    c.len.result c.in_err-brought.field-0.0 c.lines.invariant c.in-Some.ensures.cut counted c.in_err-brought.ensures)

pub returns-in_err-brought-clause-only : goal.returns-in_err-brought-clause-only
returns-in_err-brought-clause-only c = λ others document within.
    let p = err_from_is_err_and c.from_residual.result c.from_residual.ensures.1 in
    let counted : c.len.result ≡ length c.lines.statements.items = search rules in
    rw (p.1, p.2) (fault_only c.args.bytes.now c.in_err-brought.field-0.0 others
    (fault_cause c.args.bytes.now c.lines.rest.now c.lines.number c.lines.first_label c.lines.statements.items c.in-Some.line.now c.in-Some.behind.now
    c.len.result c.in_err-brought.field-0.0 c.lines.invariant c.in-Some.ensures.cut counted c.in_err-brought.ensures) document within)

pub lines-preserved : goal.lines-preserved
lines-preserved c =
    let counted : c.len.result ≡ length c.lines.statements.items = search rules in
    rw (c.in_ok-keep.ensures, c.noted-first_label.ensures) (SoFar-more c.args.bytes.now c.lines.rest.now c.lines.number c.lines.first_label c.lines.statements.items
    c.in-Some.line.now c.in-Some.behind.now c.in_ok-brought.brought c.len.result
    c.lines.invariant c.in-Some.ensures.cut c.in-Some.ensures.shorter counted c.in_ok-brought.ensures)

pub returns-clause-found : goal.returns-clause-found
returns-clause-found c =
    let whole = SoFar-end c.args.bytes.now c.lines.rest.now c.lines.number c.lines.first_label c.lines.statements.items c.lines.invariant (c.in_default.ensures.none.0 refl) in
    rw c.of.ensures whole.document

pub returns-clause-label : goal.returns-clause-label
returns-clause-label c =
    let whole = SoFar-end c.args.bytes.now c.lines.rest.now c.lines.number c.lines.first_label c.lines.statements.items c.lines.invariant (c.in_default.ensures.none.0 refl) in
    whole.label

pub returns-clause-plain : goal.returns-clause-plain
returns-clause-plain c = λ none.
    let whole = SoFar-end c.args.bytes.now c.lines.rest.now c.lines.number c.lines.first_label c.lines.statements.items c.lines.invariant (c.in_default.ensures.none.0 refl) in
    rw c.of.ensures (HasNoBlankNode-from_lines (lines_of Any c.args.bytes.now) 1 c.lines.statements.items whole.document
    (subst (λ (first : Option ℕ). IsFirstLabel (lines_of Any c.args.bytes.now) 1 first) none whole.label))

pub returns-clause-few : goal.returns-clause-few
returns-clause-few c =
    let whole = SoFar-end c.args.bytes.now c.lines.rest.now c.lines.number c.lines.first_label c.lines.statements.items c.lines.invariant (c.in_default.ensures.none.0 refl) in
    rw c.of.ensures whole.within

pub returns-clause-statements : goal.returns-clause-statements
returns-clause-statements c =
    let whole = SoFar-end c.args.bytes.now c.lines.rest.now c.lines.number c.lines.first_label c.lines.statements.items c.lines.invariant (c.in_default.ensures.none.0 refl) in
    rw c.of.ensures (IsStatement-from_lines (lines_of Any c.args.bytes.now) c.lines.statements.items whole.document whole.within.short)

pub returns-clause-times : goal.returns-clause-times
returns-clause-times c =
    let whole = SoFar-end c.args.bytes.now c.lines.rest.now c.lines.number c.lines.first_label c.lines.statements.items c.lines.invariant (c.in_default.ensures.none.0 refl) in
    rw c.of.ensures (HasNoTimes-from_lines (lines_of Any c.args.bytes.now) c.lines.statements.items whole.document)

pub returns-clause-only : goal.returns-clause-only
returns-clause-only c = λ others document within.
    let whole = SoFar-end c.args.bytes.now c.lines.rest.now c.lines.number c.lines.first_label c.lines.statements.items c.lines.invariant (c.in_default.ensures.none.0 refl) in
    rw c.of.ensures (AreLinesOf-same (lines_of Any c.args.bytes.now) c.lines.statements.items others whole.document document)

pub returns-clause-bad : goal.returns-clause-bad
returns-clause-bad c = λ fault first.
    let whole = SoFar-end c.args.bytes.now c.lines.rest.now c.lines.number c.lines.first_label c.lines.statements.items c.lines.invariant (c.in_default.ensures.none.0 refl) in
    absurd (no_bad_line c.args.bytes.now fault c.lines.statements.items first whole.document whole.within)

pub returns-clause-spelled : goal.returns-clause-spelled
returns-clause-spelled c =
    let whole = SoFar-end c.args.bytes.now c.lines.rest.now c.lines.number c.lines.first_label c.lines.statements.items c.lines.invariant (c.in_default.ensures.none.0 refl) in
    rw c.of.ensures (document_length c.args.bytes.now c.lines.statements.items whole.document)

pub returns-clause-size : goal.returns-clause-size
returns-clause-size c =
    let whole = SoFar-end c.args.bytes.now c.lines.rest.now c.lines.number c.lines.first_label c.lines.statements.items c.lines.invariant (c.in_default.ensures.none.0 refl) in
    let long = document_length c.args.bytes.now c.lines.statements.items whole.document in
    let few = whole.within.few in
    let short : length c.args.bytes.now ≤ largest_document = search rules in
    rw c.of.ensures (within_most (length c.args.bytes.now) (length c.lines.statements.items) (all_spelled c.lines.statements.items) largest_document most_statements most_spelled
    long short few refl)

pub returns-in_err-brought-clause-bad : goal.returns-in_err-brought-clause-bad
returns-in_err-brought-clause-bad c = λ fault first.
    let p = err_from_is_err_and c.from_residual.result c.from_residual.ensures.1 in
    let counted : c.len.result ≡ length c.lines.statements.items = search rules in
    rw (p.1, p.2) (fault_is c.args.bytes.now c.in_err-brought.field-0.0 fault
    (fault_cause c.args.bytes.now c.lines.rest.now c.lines.number c.lines.first_label c.lines.statements.items c.in-Some.line.now c.in-Some.behind.now
    c.len.result c.in_err-brought.field-0.0 c.lines.invariant c.in-Some.ensures.cut counted c.in_err-brought.ensures) first)
