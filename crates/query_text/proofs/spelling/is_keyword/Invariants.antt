use Rattle.std.proofs.Common.{◌≡◌, drop}
use Rattle.query_text.specs.Parsing.{is_keyword}
use Rattle.query_text.proofs.spelling.is_keyword.Given as goal

abbrev pub invariant-letters : goal.invariant-letters
invariant-letters l = is_keyword (drop l.at l.word) l.rest ≡ is_keyword l.word l.keyword
