use Rattle.std.proofs.Common.{List, ℕ}
use Rattle.body_codec.specs.Body.{IsBodyOf}
use Rattle.body_codec.proofs.Changes.{one_body}
use Rattle.body_codec.proofs.tests.written_again.Goals as goal

pub returns : goal.returns
returns c = one_body c.in_ok-change.change c.in_ok-write_body.field-0.items c.args.bytes.now c.in_ok-write_body.ensures c.in_ok-change.ensures.found.1
