use Rattle.std.proofs.Common.{◌≡◌, ◌++◌, take}
use Rattle.std.specs.List.{flat_map}
use Rattle.body_codec.specs.Body.{statement_field}
use Rattle.body_codec.proofs.write.put_statements.Given as goal

abbrev pub invariant-statements : goal.invariant-statements
invariant-statements l = l.bytes.items ≡ l.initial.bytes.items ++ flat_map statement_field (take l.places-index l.statements)
