use Rattle.std.proofs.Common.{arith}
use Rattle.body_codec.proofs.Turns.{IsNext-again, IsNext-new}
use Rattle.body_codec.proofs.read_statements.after_place.Goals as goal

pub returns-then-place-next-2-clause-after : goal.returns-then-place-next-2-clause-after
returns-then-place-next-2-clause-after c = λ before is. IsNext-new before c.args.next c.args.place is (omega arith)

pub returns-else-place-next-2-clause-after : goal.returns-else-place-next-2-clause-after
returns-else-place-next-2-clause-after c = λ before is. IsNext-again before c.args.next c.args.place is (omega arith)
