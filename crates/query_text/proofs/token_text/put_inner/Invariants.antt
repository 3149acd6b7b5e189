use Rattle.std.proofs.Common.{◌≡◌, ◌++◌, drop, string_bytes}
use Rattle.query_text.specs.Building.{text_read, inner_text}
use Rattle.query_text.proofs.token_text.put_inner.Given as goal

abbrev pub invariant-characters : goal.invariant-characters
invariant-characters l = string_bytes l.text ++ text_read l.scan (drop l.c-index l.c-items) ≡ string_bytes l.fn.text ++ inner_text l.fn.enclosure l.fn.characters
