use Rattle.std.proofs.Common.{◌≡◌, ◌++◌}
use Rattle.change_model.proofs.vocabulary.copies.Given as goal

abbrev pub invariant-terms : goal.invariant-terms
invariant-terms l = l.terms.items ++ l.key-iterator ≡ l.known.keys
