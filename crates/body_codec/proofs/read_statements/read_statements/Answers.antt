use Rattle.std.proofs.Common.{◌<◌, length, ap, ◌∙◌, arith, rules}
use Rattle.body_codec.specs.Body.{spelled_total}
use Rattle.body_codec.proofs.Sizes.{spelled_named, spelled_total-more}
use Rattle.body_codec.proofs.Steps.{bad_statement_of, statements_more, placed_of}
use Rattle.body_codec.proofs.read_statements.read_statements.Goals as goal

pub returns-in_default-clause-fault : goal.returns-in_default-clause-fault
returns-in_default-clause-fault c =
    let so_far = c.statements.invariant in
    let fewer : length c.statements.statements.items < c.args.count = omega arith in
    bad_statement_of c.args.terms.now c.args.count c.args.bytes.now c.args.start c.statements.at c.statements.statements.items c.statements.next c.statements.rest.now
    so_far.read fewer so_far.at c.in_default.ensures.none

pub statements-preserved : goal.statements-preserved
statements-preserved c =
    let so_far = c.statements.invariant in
    let read = c.in-Some.read in
    let found = c.in-Some.ensures.found in
    let placed = placed_of c.args.terms.now found.places read.terms c.in_ok-statement_of.field-0 found.named_are c.in_ok-statement_of.ensures in
    let cut = ap length found.cut in
    let one = spelled_named read.terms c.in_ok-statement_of.field-0 c.in_ok-statement_of.ensures in
    let all = ap spelled_total c.in_ok-push.ensures.items ∙ spelled_total-more c.statements.statements.items c.in_ok-statement_of.field-0 in
    record {
      read = statements_more c.args.terms.now c.args.bytes.now c.statements.statements.items c.push.new.self.items c.statements.next read.next c.statements.rest.now read.rest.now
          c.in_ok-statement_of.field-0 found.places so_far.read found.cut placed found.placing found.next_is c.in_ok-push.ensures.items;
      long = search rules;
      total = omega (arith, so_far.total, c.in-Some-with_statement.ensures.0, one, all);
      few = c.in-Some-with_statement.ensures.1;
      at = omega arith;
    }
