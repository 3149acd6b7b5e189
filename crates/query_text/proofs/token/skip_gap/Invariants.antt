use Rattle.std.proofs.Common.{◌≡◌, false, drop}
use Rattle.query_text.specs.Texts.{behind_gap}
use Rattle.query_text.proofs.token.skip_gap.Given as goal

abbrev pub invariant-characters : goal.invariant-characters
invariant-characters l = behind_gap l.in_comment (drop l.at l.text) ≡ behind_gap false l.text
