use Rattle.std.proofs.Common.{◌≡◌, true, false, arith, sym, ◌∙◌, inr}
use Rattle.query_text.specs.Parsing.{seen}
use Rattle.query_text.specs.Outcomes.{is_whole}
use Rattle.query_text.proofs.Endings.{stopped_of, read_of, rest_within, token_within, refusal_fault, refusal_only, ended_fault, ended_only, too_large, too_large_only, query_reads, query_places, query_terms, query_few, query_only}
use Rattle.query_text.proofs.OneFault.{fault_is, no_fault}
use Rattle.query_text.specs.declared.fault.QueryFault.TheVariants as faults
use Rattle.query_text.proofs.reader.read_query.Goals as goal

pub refusal-requires-clause-within : goal.refusal-requires-clause-within
refusal-requires-clause-within c =
    token_within c.args.text.now c.in_ok-characters.characters.items c.in_ok-characters.bad.now c.in_ok-characters.ensures
    c.in-Refused.token (stopped_of _ _ _ _ c.deref.ensures.value c.in_ok-token.ensures c.in-Refused.is)

pub returns-in-Refused-clause-only : goal.returns-in-Refused-clause-only
returns-in-Refused-clause-only c query reads few =
    absurd (refusal_only c.args.text.now c.in_ok-characters.characters.items c.in_ok-characters.bad.now c.in_ok-characters.ensures
    c.in-Refused.token (stopped_of _ _ _ _ c.deref.ensures.value c.in_ok-token.ensures c.in-Refused.is) query reads)

pub returns-in-Refused-clause-fault : goal.returns-in-Refused-clause-fault
returns-in-Refused-clause-fault c =
    inr (refusal_fault c.args.text.now c.in_ok-characters.characters.items c.in_ok-characters.bad.now c.in_ok-characters.ensures
    c.in-Refused.token (stopped_of _ _ _ _ c.deref.ensures.value c.in_ok-token.ensures c.in-Refused.is) c.refusal.result c.refusal.ensures)

pub returns-in-Refused-clause-bad : goal.returns-in-Refused-clause-bad
returns-in-Refused-clause-bad c = λ fault is.
    fault_is c.args.text.now c.refusal.result fault
    (refusal_fault c.args.text.now c.in_ok-characters.characters.items c.in_ok-characters.bad.now c.in_ok-characters.ensures
    c.in-Refused.token (stopped_of _ _ _ _ c.deref.ensures.value c.in_ok-token.ensures c.in-Refused.is) c.refusal.result c.refusal.ensures) is

pub place_before-place-requires-clause-within : goal.place_before-place-requires-clause-within
place_before-place-requires-clause-within c =
    rest_within c.args.text.now c.in_ok-characters.characters.items c.in_ok-characters.bad.now c.in_ok-characters.ensures
    (seen c.in-Read.parser) c.in-Read.rest.now (read_of _ _ _ _ _ c.deref.ensures.value c.in_ok-token.ensures c.in-Read.is)

pub returns-then-not-is_whole-clause-only : goal.returns-then-not-is_whole-clause-only
returns-then-not-is_whole-clause-only c query reads few =
    let short : is_whole c.in-Read.parser.phase c.in-Read.rest.now c.in_ok-characters.bad.now ≡ false = sym c.is_whole.ensures ∙ c.if-not-is_whole.true in
    ended_only c.args.text.now c.in_ok-characters.characters.items c.in_ok-characters.bad.now c.in_ok-characters.ensures
    (seen c.in-Read.parser) c.in-Read.rest.now (read_of _ _ _ _ _ c.deref.ensures.value c.in_ok-token.ensures c.in-Read.is) short query reads

pub returns-then-not-is_whole-clause-fault : goal.returns-then-not-is_whole-clause-fault
returns-then-not-is_whole-clause-fault c =
    let short : is_whole c.in-Read.parser.phase c.in-Read.rest.now c.in_ok-characters.bad.now ≡ false = sym c.is_whole.ensures ∙ c.if-not-is_whole.true in
    inr (ended_fault c.args.text.now c.in_ok-characters.characters.items c.in_ok-characters.bad.now c.in_ok-characters.ensures
    (seen c.in-Read.parser) c.in-Read.rest.now (read_of _ _ _ _ _ c.deref.ensures.value c.in_ok-token.ensures c.in-Read.is) c.place_before-place.result short c.place_before-place.ensures)

pub returns-then-not-is_whole-clause-bad : goal.returns-then-not-is_whole-clause-bad
returns-then-not-is_whole-clause-bad c = λ fault is.
    let short : is_whole c.in-Read.parser.phase c.in-Read.rest.now c.in_ok-characters.bad.now ≡ false = sym c.is_whole.ensures ∙ c.if-not-is_whole.true in
    fault_is c.args.text.now (faults.At c.place_before-place.result) fault
    (ended_fault c.args.text.now c.in_ok-characters.characters.items c.in_ok-characters.bad.now c.in_ok-characters.ensures
    (seen c.in-Read.parser) c.in-Read.rest.now (read_of _ _ _ _ _ c.deref.ensures.value c.in_ok-token.ensures c.in-Read.is) c.place_before-place.result short c.place_before-place.ensures) is

pub returns-then-len-gt-MOST_PATTERNS-clause-only : goal.returns-then-len-gt-MOST_PATTERNS-clause-only
returns-then-len-gt-MOST_PATTERNS-clause-only c query reads few =
    let whole : is_whole c.in-Read.parser.phase c.in-Read.rest.now c.in_ok-characters.bad.now ≡ true = sym c.is_whole.ensures ∙ c.if-not-is_whole.false in
    too_large_only c.args.text.now c.in_ok-characters.characters.items c.in_ok-characters.bad.now c.in_ok-characters.ensures
    (seen c.in-Read.parser) c.in-Read.rest.now (read_of _ _ _ _ _ c.deref.ensures.value c.in_ok-token.ensures c.in-Read.is) whole (omega arith) query reads few

pub returns-then-len-gt-MOST_PATTERNS-clause-fault : goal.returns-then-len-gt-MOST_PATTERNS-clause-fault
returns-then-len-gt-MOST_PATTERNS-clause-fault c =
    let whole : is_whole c.in-Read.parser.phase c.in-Read.rest.now c.in_ok-characters.bad.now ≡ true = sym c.is_whole.ensures ∙ c.if-not-is_whole.false in
    inr (too_large c.args.text.now c.in_ok-characters.characters.items c.in_ok-characters.bad.now c.in_ok-characters.ensures
    (seen c.in-Read.parser) c.in-Read.rest.now (read_of _ _ _ _ _ c.deref.ensures.value c.in_ok-token.ensures c.in-Read.is) whole (omega arith))

pub returns-then-len-gt-MOST_PATTERNS-clause-bad : goal.returns-then-len-gt-MOST_PATTERNS-clause-bad
returns-then-len-gt-MOST_PATTERNS-clause-bad c = λ fault is.
    let whole : is_whole c.in-Read.parser.phase c.in-Read.rest.now c.in_ok-characters.bad.now ≡ true = sym c.is_whole.ensures ∙ c.if-not-is_whole.false in
    fault_is c.args.text.now faults.TooManyPatterns fault
    (too_large c.args.text.now c.in_ok-characters.characters.items c.in_ok-characters.bad.now c.in_ok-characters.ensures
    (seen c.in-Read.parser) c.in-Read.rest.now (read_of _ _ _ _ _ c.deref.ensures.value c.in_ok-token.ensures c.in-Read.is) whole (omega arith)) is

pub returns-clause-found : goal.returns-clause-found
returns-clause-found c =
    let whole : is_whole c.in-Read.parser.phase c.in-Read.rest.now c.in_ok-characters.bad.now ≡ true = sym c.is_whole.ensures ∙ c.if-not-is_whole.false in
    query_reads c.args.text.now c.in_ok-characters.characters.items c.in_ok-characters.bad.now c.in_ok-characters.ensures
    (seen c.in-Read.parser) c.in-Read.rest.now (read_of _ _ _ _ _ c.deref.ensures.value c.in_ok-token.ensures c.in-Read.is) whole
    c.in_ok-query.query c.in_ok-query.ensures.made

pub returns-clause-places : goal.returns-clause-places
returns-clause-places c =
    let whole : is_whole c.in-Read.parser.phase c.in-Read.rest.now c.in_ok-characters.bad.now ≡ true = sym c.is_whole.ensures ∙ c.if-not-is_whole.false in
    query_places c.args.text.now c.in_ok-characters.characters.items c.in_ok-characters.bad.now c.in_ok-characters.ensures
    (seen c.in-Read.parser) c.in-Read.rest.now (read_of _ _ _ _ _ c.deref.ensures.value c.in_ok-token.ensures c.in-Read.is) whole
    c.in_ok-query.query c.in_ok-query.ensures.made

pub returns-clause-terms : goal.returns-clause-terms
returns-clause-terms c =
    let whole : is_whole c.in-Read.parser.phase c.in-Read.rest.now c.in_ok-characters.bad.now ≡ true = sym c.is_whole.ensures ∙ c.if-not-is_whole.false in
    query_terms c.args.text.now c.in_ok-characters.characters.items c.in_ok-characters.bad.now c.in_ok-characters.ensures
    (seen c.in-Read.parser) c.in-Read.rest.now (read_of _ _ _ _ _ c.deref.ensures.value c.in_ok-token.ensures c.in-Read.is) whole
    c.in_ok-query.query c.in_ok-query.ensures.made c.requires

pub returns-clause-few : goal.returns-clause-few
returns-clause-few c =
    let whole : is_whole c.in-Read.parser.phase c.in-Read.rest.now c.in_ok-characters.bad.now ≡ true = sym c.is_whole.ensures ∙ c.if-not-is_whole.false in
    query_few c.args.text.now c.in_ok-characters.characters.items c.in_ok-characters.bad.now c.in_ok-characters.ensures
    (seen c.in-Read.parser) c.in-Read.rest.now (read_of _ _ _ _ _ c.deref.ensures.value c.in_ok-token.ensures c.in-Read.is) whole
    c.in_ok-query.query c.in_ok-query.ensures.made (omega arith)

pub returns-clause-only : goal.returns-clause-only
returns-clause-only c query reads few =
    let whole : is_whole c.in-Read.parser.phase c.in-Read.rest.now c.in_ok-characters.bad.now ≡ true = sym c.is_whole.ensures ∙ c.if-not-is_whole.false in
    query_only c.args.text.now c.in_ok-characters.characters.items c.in_ok-characters.bad.now c.in_ok-characters.ensures
    (seen c.in-Read.parser) c.in-Read.rest.now (read_of _ _ _ _ _ c.deref.ensures.value c.in_ok-token.ensures c.in-Read.is) whole
    c.in_ok-query.query c.in_ok-query.ensures.made query reads

pub returns-clause-bad : goal.returns-clause-bad
returns-clause-bad c = λ fault is.
    let whole : is_whole c.in-Read.parser.phase c.in-Read.rest.now c.in_ok-characters.bad.now ≡ true = sym c.is_whole.ensures ∙ c.if-not-is_whole.false in
    let reads = query_reads c.args.text.now c.in_ok-characters.characters.items c.in_ok-characters.bad.now c.in_ok-characters.ensures
    (seen c.in-Read.parser) c.in-Read.rest.now (read_of _ _ _ _ _ c.deref.ensures.value c.in_ok-token.ensures c.in-Read.is) whole
    c.in_ok-query.query c.in_ok-query.ensures.made in
    let few = query_few c.args.text.now c.in_ok-characters.characters.items c.in_ok-characters.bad.now c.in_ok-characters.ensures
    (seen c.in-Read.parser) c.in-Read.rest.now (read_of _ _ _ _ _ c.deref.ensures.value c.in_ok-token.ensures c.in-Read.is) whole
    c.in_ok-query.query c.in_ok-query.ensures.made (omega arith) in
    let only = query_only c.args.text.now c.in_ok-characters.characters.items c.in_ok-characters.bad.now c.in_ok-characters.ensures
    (seen c.in-Read.parser) c.in-Read.rest.now (read_of _ _ _ _ _ c.deref.ensures.value c.in_ok-token.ensures c.in-Read.is) whole
    c.in_ok-query.query c.in_ok-query.ensures.made in
    absurd (no_fault c.args.text.now fault c.in_ok-query.query only reads few is)
