use Rattle.std.proofs.Common.{◌≡◌, ◌++◌, drop, string_bytes}
use Rattle.std.specs.Str.{encode_utf8_all}
use Rattle.query_text.proofs.token_text.put_characters.Given as goal

abbrev pub invariant-characters : goal.invariant-characters
invariant-characters l = string_bytes l.text ++ encode_utf8_all (drop l.c-index l.characters) ≡ string_bytes l.fn.text ++ encode_utf8_all l.characters
