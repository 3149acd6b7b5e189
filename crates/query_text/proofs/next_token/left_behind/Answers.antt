use Rattle.std.proofs.Common.{arith, sym}
use Rattle.query_text.proofs.Alone.{left_is}
use Rattle.query_text.proofs.next_token.left_behind.Goals as goal

pub returns-then-quiet-text : goal.returns-then-quiet-text
returns-then-quiet-text c = sym (left_is c.args.text.now c.args.quiet c.requires.known (omega arith) c.requires.letter)
