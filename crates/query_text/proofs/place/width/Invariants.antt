use Rattle.std.proofs.Common.{◌≡◌, take}
use Rattle.query_text.proofs.Widths.{width}
use Rattle.query_text.proofs.place.width.Given as goal

abbrev pub invariant-characters : goal.invariant-characters
invariant-characters l = l.width ≡ width (take l.c-index l.characters)
