use Rattle.std.proofs.Common.{◌<◌, length, arith, rules}
use Rattle.std.proofs.lemmas.Result.{err_from_is_err_and}
use Rattle.body_codec.proofs.Steps.{bad_term_of, terms_more}
use Rattle.body_codec.proofs.read_terms.read_terms.Goals as goal

pub returns-in_err-next-clause-fault : goal.returns-in_err-next-clause-fault
returns-in_err-next-clause-fault c =
    let so_far = c.terms.invariant in
    let p = err_from_is_err_and c.from_residual.result c.from_residual.ensures.1 in
    let fewer : length c.terms.terms.items < c.args.count = omega arith in
    rw (p.1, p.2) (bad_term_of c.args.kind c.args.count c.args.bytes.now c.terms.terms.items c.terms.rest.now c.terms.at c.in_err-next.field-0.0 c.ranges.count.fits
    so_far.cut so_far.are fewer so_far.at (c.in_err-next.ensures.fault c.terms.terms.items so_far.are.each so_far.seen))

pub terms-preserved : goal.terms-preserved
terms-preserved c =
    let so_far = c.terms.invariant in
    let next = c.in_ok-next.next in
    let is = c.in_ok-next.ensures in
    let more = terms_more c.args.kind c.args.bytes.now c.terms.terms.items c.push.new.self.items next.term c.terms.seen.keys c.read_new_term.new.seen.keys c.terms.rest.now next.rest.now
    so_far.cut so_far.are so_far.seen is.is is.cut is.new is.seen c.in_ok-push.ensures.items in
    record {
      cut = more.cut;
      are = more.are;
      seen = more.seen;
      long = search rules;
      at = omega arith;
    }
