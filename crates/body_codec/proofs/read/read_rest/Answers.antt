use Rattle.std.proofs.Common.{◌≤◌, ◌∙◌, sym, arith}
use Rattle.std.proofs.lemmas.Result.{err_from_is_err_and}
use Rattle.body_codec.proofs.Steps.{no_number, too_many, bad_statement_at, unused_there, bytes_behind, all_statements, some_left, none_left}
use Rattle.body_codec.proofs.read.read_rest.Goals as goal

pub returns-in_default-clause-fault : goal.returns-in_default-clause-fault
returns-in_default-clause-fault c = λ body kind begin offset.
    no_number body kind c.args.terms.now c.args.bytes.now c.args.at begin offset c.in_default.ensures.cases

pub returns-then-count-gt-MOST_STATEMENTS-clause-fault : goal.returns-then-count-gt-MOST_STATEMENTS-clause-fault
returns-then-count-gt-MOST_STATEMENTS-clause-fault c = λ body kind begin offset.
    too_many body kind c.args.terms.now c.args.bytes.now c.args.at c.in-Some.count.value c.in-Some.count.rest.now begin offset c.in-Some.ensures.cases c.in-Some.ensures.fits (omega arith)

pub returns-in_err-read-clause-fault : goal.returns-in_err-read-clause-fault
returns-in_err-read-clause-fault c = λ body kind begin offset.
    let p = err_from_is_err_and c.from_residual.result c.from_residual.ensures.1 in
    let few : c.in-Some.count.value ≤ 100000 = omega arith in
    rw (p.1, p.2) (bad_statement_at body kind c.args.terms.now c.args.bytes.now c.args.at c.in-Some.count.value c.in-Some.count.rest.now c.in_err-read.field-0.0 begin offset
    c.in-Some.ensures.cases few c.in_err-read.ensures.fault)

pub returns-then-read-terms-clause-fault : goal.returns-then-read-terms-clause-fault
returns-then-read-terms-clause-fault c = λ body kind begin offset.
    let read = c.in_ok-read.read in
    unused_there body kind c.args.terms.now c.args.bytes.now c.args.at c.in-Some.count.value c.in-Some.count.rest.now read.statements.items read.next read.rest.now begin offset
    c.in-Some.ensures.cases (omega arith) c.in_ok-read.ensures.found c.in_ok-read.ensures.all (omega arith)

pub returns-then-not-is_empty-clause-fault : goal.returns-then-not-is_empty-clause-fault
returns-then-not-is_empty-clause-fault c = λ body kind begin offset.
    let read = c.in_ok-read.read in
    bytes_behind body kind c.args.terms.now c.args.bytes.now c.args.at c.in-Some.count.value c.in-Some.count.rest.now read.statements.items read.next read.rest.now read.at begin offset
    c.in-Some.ensures.cases (omega arith) c.in_ok-read.ensures.found c.in_ok-read.ensures.all (omega arith) c.in_ok-read.ensures.at (some_left _ (sym c.if-not-is_empty.true ∙ c.is_empty.ensures))

pub returns-clause-found : goal.returns-clause-found
returns-clause-found c =
    let read = c.in_ok-read.read in
    all_statements c.args.terms.now c.args.bytes.now c.in-Some.count.value c.in-Some.count.rest.now read.statements.items read.next read.rest.now
    c.in-Some.ensures.cases (omega arith) c.in_ok-read.ensures.found c.in_ok-read.ensures.all (omega arith) (none_left _ (sym c.if-not-is_empty.false ∙ c.is_empty.ensures))
