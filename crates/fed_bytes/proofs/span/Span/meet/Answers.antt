use Rattle.std.proofs.Common.{◌∙◌, sym}
use Rattle.fed_bytes.proofs.Orders.{meet_span, meet_empty, meet_left}
use Rattle.fed_bytes.proofs.span.Span.meet.Goals as goal

pub returns-then-not-is_before_end-clause-none : goal.returns-then-not-is_before_end-clause-none
returns-then-not-is_before_end-clause-none c key both =
    meet_empty c.args.self.now.left c.args.other.now.left _ c.args.self.now.right c.args.other.now.right _ c.is_before_end.result
    (c.bytes.ensures ∙ c.later_of-left.ensures) c.earlier_of-right.ensures c.is_before_end.ensures.1 c.if-not-is_before_end.true key both.0 both.1

pub returns-clause-none : goal.returns-clause-none
returns-clause-none c =
    meet_left c.in_ok-left.left _ c.in_ok-right.right _
    (c.in_ok-left.ensures ∙ sym c.bytes.ensures) c.in_ok-right.ensures (c.is_before_end.ensures.0 c.if-not-is_before_end.false)

pub returns-clause-some : goal.returns-clause-some
returns-clause-some c key =
    meet_span c.args.self.now.left c.args.other.now.left _ c.args.self.now.right c.args.other.now.right _
    (c.in_ok-left.ensures ∙ c.later_of-left.ensures) (c.in_ok-right.ensures ∙ c.earlier_of-right.ensures) key
