use Rattle.std.proofs.Common.{◌≡◌, true, ◌&&◌, sym, ◌∙◌, get_or}
use Rattle.std.specs.Char.{is_ascii_hexdigit}
use Rattle.std.proofs.lemmas.Bool.{and_parts}
use Rattle.nt_text.specs.Escapes.{are_four_digits}
use Rattle.nt_text.proofs.pieces.read_four.Goals as goal

pub digit_value-requires-4 : goal.digit_value-requires-4
digit_value-requires-4 c =
    let bytes = c.args.bytes.now in
    let all : are_four_digits (get_or bytes 0 0) (get_or bytes 1 0) (get_or bytes 2 0) (get_or bytes 3 0) ≡ true = sym c.are_four_digits.ensures ∙ c.if-not-are_four_digits.false in
    (and_parts (is_ascii_hexdigit (get_or bytes 0 0) && is_ascii_hexdigit (get_or bytes 1 0) && is_ascii_hexdigit (get_or bytes 2 0)) (is_ascii_hexdigit (get_or bytes 3 0)) all).1
