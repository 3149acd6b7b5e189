use Rattle.std.proofs.Common.{◌∙◌, refl}
use Rattle.fed_bytes.proofs.Orders.{meet_span, meet_empty, meet_left}
use Rattle.fed_bytes.proofs.span.Span.overlaps.Goals as goal

-- the later left end is in both
pub returns-clause-shared : goal.returns-clause-shared
returns-clause-shared c is_shared =
    let left = c.bytes.result.now in
    let right = c.earlier_of-end.result.now in
    let both = (meet_span c.args.self.now.left c.args.other.now.left left c.args.self.now.right c.args.other.now.right right
    (c.bytes.ensures ∙ c.later_of-left.ensures) c.earlier_of-end.ensures left).0
    (meet_left left left right right refl refl (c.is_before_end.ensures.0 is_shared)) in
    (left, both.0, both.1)

pub returns-clause-apart : goal.returns-clause-apart
returns-clause-apart c is_apart key both =
    meet_empty c.args.self.now.left c.args.other.now.left c.bytes.result.now c.args.self.now.right c.args.other.now.right c.earlier_of-end.result.now
    c.is_before_end.result (c.bytes.ensures ∙ c.later_of-left.ensures) c.earlier_of-end.ensures c.is_before_end.ensures.1 is_apart key both.0 both.1
