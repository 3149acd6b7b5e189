use Rattle.std.proofs.Common.{◌≡◌, ◌++◌, take}
use Rattle.std.specs.List.{flat_map}
use Rattle.body_codec.specs.Writing.{counted}
use Rattle.body_codec.proofs.write.put_terms.Given as goal

abbrev pub invariant-terms : goal.invariant-terms
invariant-terms l = l.bytes.items ≡ l.initial.bytes.items ++ flat_map counted (take l.spelling-index l.vocabulary.spellings)
