use Rattle.query_text.proofs.Longest.{length_of}
use Rattle.query_text.proofs.token.first_token.Goals as goal

pub split_at-requires : goal.split_at-requires
split_at-requires c = length_of c.args.text.now c.in-Some.longest c.in-Some.ensures
