use Rattle.std.proofs.Common.{length, ◌∙◌, ap, arith}
use Rattle.body_codec.proofs.Changes.{few_terms, short_spellings, ArePlaced-length}
use Rattle.body_codec.proofs.write.write_body.Goals as goal

pub overflow_cast-terms : goal.overflow_cast-terms
overflow_cast-terms c =
    let low = few_terms c.args.change.now.statements c.requires.few in
    let long = ap length (c.items-terms.ensures ∙ c.in_ok-vocabulary.ensures.terms) in
    omega arith

pub put_terms-requires-clause-short : goal.put_terms-requires-clause-short
put_terms-requires-clause-short c =
    short_spellings c.args.change.now c.in_ok-vocabulary.vocabulary c.in_ok-vocabulary.ensures c.requires

pub overflow_cast-places : goal.overflow_cast-places
overflow_cast-places c =
    let places = c.in_ok-vocabulary.vocabulary.places in
    let long = ArePlaced-length c.in_ok-vocabulary.vocabulary.terms c.args.change.now.statements places c.in_ok-vocabulary.ensures.places in
    let same = ap length c.items-places.ensures in
    let few = c.requires.few in
    omega arith
