use Rattle.std.proofs.Common.{◌≡◌, ◌++◌, drop, string_bytes}
use Rattle.query_text.specs.Building.{lower_text}
use Rattle.query_text.proofs.token_text.lower_of.Given as goal

abbrev pub invariant-characters : goal.invariant-characters
invariant-characters l = string_bytes l.text ++ lower_text (drop l.c-index l.characters) ≡ lower_text l.characters
