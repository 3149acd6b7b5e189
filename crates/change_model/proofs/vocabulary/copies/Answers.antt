use Rattle.change_model.proofs.VocabularyTerms.{copied_all}
use Rattle.change_model.proofs.vocabulary.copies.Goals as goal

pub returns : goal.returns
returns c = copied_all c.terms.terms.items c.args.known.now.keys _ c.terms.invariant c.in-None.ensures.steps.0
