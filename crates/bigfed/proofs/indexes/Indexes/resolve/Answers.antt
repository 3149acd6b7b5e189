use Rattle.std.proofs.Common.{◌∙◌}
use Rattle.bigfed.proofs.Growth.{vocabulary_keeps}
use Rattle.bigfed.proofs.indexes.Indexes.resolve.Goals as goal

pub returns-clause-resolved : goal.returns-clause-resolved
returns-clause-resolved c history are =
    let rules = vocabulary_keeps c.args.change.statements c.in_ok-vocabulary.vocabulary c.requires c.in_ok-vocabulary.ensures in
    record {
      vocabulary = c.in_ok-vocabulary.ensures;
      ids = c.in_ok-ids.ensures history c.in_ok-vocabulary.vocabulary.terms are rules (c.items.ensures ∙ c.in_ok-vocabulary.ensures.spellings);
    }
