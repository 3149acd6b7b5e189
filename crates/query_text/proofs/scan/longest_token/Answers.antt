use Rattle.std.proofs.Common.{sym, subst}
use Rattle.query_text.specs.Reading.{IsFirst}
use Rattle.query_text.proofs.Longest.{first_is}
use Rattle.query_text.proofs.scan.longest_token.Goals as goal

pub returns : goal.returns
returns c = subst (IsFirst c.args.text.now) (sym c.last_accepted.ensures) (first_is c.args.text.now)
