use Rattle.std.proofs.Common.{◌≡◌, drop}
use Rattle.query_text.specs.Parsing.{same_characters}
use Rattle.query_text.proofs.spelling.is_text.Given as goal

abbrev pub invariant-characters : goal.invariant-characters
invariant-characters l = same_characters (drop l.at l.characters) l.rest ≡ same_characters l.characters l.text
