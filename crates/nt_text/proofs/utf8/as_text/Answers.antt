use Rattle.std.proofs.Common.{refl, rules}
use Rattle.std.proofs.lemmas.Str.{is_utf8-from_IsUtf8}
use Rattle.nt_text.proofs.TextTests.{no_utf8}
use Rattle.nt_text.proofs.utf8.as_text.Goals as goal

pub returns-in-Err : goal.returns-in-Err
returns-in-Err c = rw (no_utf8 c.args.bytes.now c.in-Err.ensures.cases.0) refl

pub returns-in-Ok : goal.returns-in-Ok
returns-in-Ok c = rw (is_utf8-from_IsUtf8 c.args.bytes.now c.in-Ok.ensures.cases.1) (search rules)
