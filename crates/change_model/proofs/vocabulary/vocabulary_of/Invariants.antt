use Rattle.std.proofs.Common.{◌≡◌, [], take}
use Rattle.change_model.specs.Entries.{ArePlaced}
use Rattle.change_model.specs.Lexicon.{with_terms, terms_of}
use Rattle.change_model.proofs.vocabulary.vocabulary_of.Given as goal

abbrev pub invariant-statements : goal.invariant-statements
invariant-statements l = record {
  terms : l.known.keys ≡ with_terms [] (terms_of (take l.statement-index l.statements));
  placed : ArePlaced l.known.keys (take l.statement-index l.statements) l.places.items;
}
