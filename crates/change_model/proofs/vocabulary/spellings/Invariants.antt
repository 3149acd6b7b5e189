use Rattle.std.proofs.Common.{◌≡◌, map, take}
use Rattle.term_core.specs.Spelling.{spelling}
use Rattle.change_model.proofs.vocabulary.spellings.Given as goal

abbrev pub invariant-terms : goal.invariant-terms
invariant-terms l = l.spellings.items ≡ map spelling (take l.term-index l.terms)
