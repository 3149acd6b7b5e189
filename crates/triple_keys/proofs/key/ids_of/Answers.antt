use Rattle.std.proofs.Common.{Some, ap}
use Rattle.triple_keys.proofs.Spelling.{spelled_ids, told_ids}
use Rattle.triple_keys.proofs.key.ids_of.Goals as goal

pub returns-clause-spelled : goal.returns-clause-spelled
returns-clause-spelled c =
    spelled_ids c.args.order c.args.key.now c.in-Some.first c.in-Some-get_u64.second c.in-Some-get_u64-2.third c.put_back.result c.if-key-ne24.false
    c.in-Some.ensures.spelled c.in-Some-get_u64.ensures.spelled c.in-Some-get_u64-2.ensures.spelled c.put_back.ensures.places

pub returns-clause-again : goal.returns-clause-again
returns-clause-again c ids small again =
    let spelled =
    spelled_ids c.args.order c.args.key.now c.in-Some.first c.in-Some-get_u64.second c.in-Some-get_u64-2.third c.put_back.result c.if-key-ne24.false
    c.in-Some.ensures.spelled c.in-Some-get_u64.ensures.spelled c.in-Some-get_u64-2.ensures.spelled c.put_back.ensures.places in
    ap Some (told_ids c.args.order c.args.key.now c.put_back.result c.put_back.ensures.fits spelled ids small again)
