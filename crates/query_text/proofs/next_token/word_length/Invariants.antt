use Rattle.std.proofs.Common.{◌≡◌, ◌+◌, drop}
use Rattle.query_text.specs.Ahead.{word_length}
use Rattle.query_text.proofs.next_token.word_length.Given as goal

abbrev pub invariant-characters : goal.invariant-characters
invariant-characters l = l.at + word_length (drop l.at l.text) ≡ word_length l.text
