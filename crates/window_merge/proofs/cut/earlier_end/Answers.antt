use Rattle.window_merge.proofs.Ends.{first_read, second_read}
use Rattle.window_merge.proofs.cut.earlier_end.Goals as goal

pub returns-then-is_up_to : goal.returns-then-is_up_to
returns-then-is_up_to c =
    first_read c.args.one c.args.other c.in-Some.first c.in-Some-other.second _ _ c.is_up_to.result c.in-Some.is c.in-Some-other.is c.bytes.ensures c.bytes-2.ensures c.is_up_to.ensures c.if-is_up_to.true

pub returns-else-is_up_to : goal.returns-else-is_up_to
returns-else-is_up_to c =
    second_read c.args.one c.args.other c.in-Some.first c.in-Some-other.second _ _ c.is_up_to.result c.in-Some.is c.in-Some-other.is c.bytes.ensures c.bytes-2.ensures c.is_up_to.ensures c.if-is_up_to.false
