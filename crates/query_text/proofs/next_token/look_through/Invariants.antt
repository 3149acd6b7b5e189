use Rattle.std.proofs.Common.{◌≡◌, false, drop}
use Rattle.query_text.specs.Ahead.{left_unnamed}
use Rattle.query_text.proofs.next_token.look_through.Given as goal

abbrev pub invariant-characters : goal.invariant-characters
invariant-characters l = left_unnamed l.dot (drop l.at l.text) ≡ left_unnamed false l.text
