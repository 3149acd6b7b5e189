use Rattle.std.proofs.Common.{subst}
use Rattle.body_codec.specs.Body.{NameTerms, AreInTurn}
use Rattle.body_codec.proofs.Steps.{other_places}
use Rattle.body_codec.proofs.read_statements.read_statement.Goals as goal

pub returns-in_default-terms_at-clause-none : goal.returns-in_default-terms_at-clause-none
returns-in_default-terms_at-clause-none c = λ before places behind next is e.
    let cut = c.in-Some.ensures in
    let same = other_places c.args.terms.now c.args.bytes.now c.in-Some.places places c.in-Some.rest.now behind c.requires cut.small is.names cut.cases e in
    c.in_default-terms_at.ensures.none (subst (NameTerms c.args.terms.now) same is.names)

pub returns-in_default-after_statement-clause-none : goal.returns-in_default-after_statement-clause-none
returns-in_default-after_statement-clause-none c = λ before places behind next is e.
    let cut = c.in-Some.ensures in
    let same = other_places c.args.terms.now c.args.bytes.now c.in-Some.places places c.in-Some.rest.now behind c.requires cut.small is.names cut.cases e in
    c.in_default-after_statement.ensures.none before next (subst (AreInTurn before) same is.turns)

pub returns-clause-found : goal.returns-clause-found
returns-clause-found c =
    let named = c.in-Some-terms_at.ensures in
    let turns = c.in-Some-after_statement.ensures in
    record {
      places = c.in-Some.places;
      cut = c.in-Some.ensures.cases;
      named_are = named.named;
      placing = λ before is. record { names = named.names; turns = turns.turns before is };
      next_is = turns.after;
    }
