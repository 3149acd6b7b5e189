use Rattle.std.proofs.Common.{sym}
use Rattle.query_text.proofs.Alone.{quiet_from}
use Rattle.query_text.proofs.next_token.next_token.Goals as goal

pub returns-clause-quiet : goal.returns-clause-quiet
returns-clause-quiet c = quiet_from c.args.text.now c.in-Some.left (sym c.in-Some.ensures)
