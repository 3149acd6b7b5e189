use Rattle.std.proofs.Common.{arith}
use Rattle.window_core.proofs.Choosing.{not_before_read}
use Rattle.window_core.proofs.run.is_older_next.Goals as goal

pub returns-clause-newer : goal.returns-clause-newer
returns-clause-newer c = λ h. record {
  there = omega (arith, c.if-from_newer-len.false, c.len-2.ensures);
  up_to = λ _. not_before_read _ _ _ _ _ c.is_before.ensures c.key_at.ensures.key c.key_at-2.ensures.key h;
}
