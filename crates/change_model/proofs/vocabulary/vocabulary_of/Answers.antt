use Rattle.std.proofs.Common.{map, ap, sym, ◌∙◌}
use Rattle.term_core.specs.Spelling.{spelling}
use Rattle.change_model.proofs.VocabularyTerms.{so_far_more, vocabulary_made}
use Rattle.change_model.proofs.vocabulary.vocabulary_of.Goals as goal

pub statements-preserved : goal.statements-preserved
statements-preserved c =
    let more = so_far_more _ _ c.items-statements.result.now c.statements.statement-index _ _ c.statement-item.result c.in_ok-places_of.field-0
    c.statements-test.true c.statement-item.is c.statements.invariant.terms c.statements.invariant.placed
    c.in_ok-places_of.ensures.terms c.in_ok-places_of.ensures.placed c.in_ok-push.ensures.items in
    record { terms = more.terms; placed = more.placed }

pub returns : goal.returns
returns c =
    vocabulary_made c.args.statements.now c.items-statements.result.now c.statements.statement-index c.statements.known.keys c.statements.places.items _
    c.items-statements.ensures c.statements-test.false c.statements.invariant.terms c.statements.invariant.placed
    (c.of.ensures ∙ c.in_ok-terms.ensures) (c.of-2.ensures ∙ c.in_ok-spellings.ensures ∙ ap (map spelling) (c.deref.ensures.value ∙ sym c.of.ensures)) c.of-3.ensures
