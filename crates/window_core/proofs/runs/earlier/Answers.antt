use Rattle.std.proofs.Common.{subst, arith}
use Rattle.window_core.specs.Runs.{IsLeast}
use Rattle.window_core.proofs.Choosing.{least_past, least_first, least_stays, least_turns, left_read, past_read, key_read, found_there, before_read, not_before_read}
use Rattle.window_core.proofs.runs.earlier.Goals as goal

pub returns-then-passed-next : goal.returns-then-passed-next
returns-then-passed-next c =
    least_past c.args.runs.now c.args.passed.now c.args.next c.args.found
    (past_read c.args.runs.now c.args.passed.now c.args.next _ c.index-runs-next.result c.requires.there c.index-runs-next.is c.len.ensures c.if-passed-next.true) c.requires.found

pub returns-in_default : goal.returns-in_default
returns-in_default c =
    least_first c.args.runs.now c.args.passed.now c.args.next c.requires.runs
    (left_read c.args.runs.now c.args.passed.now c.args.next _ c.index-runs-next.result c.requires.there c.index-runs-next.is c.len.ensures c.if-passed-next.false)
    (subst (IsLeast c.args.runs.now c.args.passed.now c.args.next) c.in_default.is c.requires.found)

pub returns-then-is_before : goal.returns-then-is_before
returns-then-is_before c =
    least_stays c.args.runs.now c.args.passed.now c.args.next c.in-Some.other c.requires.runs
    (left_read c.args.runs.now c.args.passed.now c.args.next _ c.index-runs-next.result c.requires.there c.index-runs-next.is c.len.ensures c.if-passed-next.false)
    (subst (IsLeast c.args.runs.now c.args.passed.now c.args.next) c.in-Some.is c.requires.found)
    (before_read _ _ _ _ _ c.is_before.ensures
    (key_read c.args.runs.now c.args.passed.now c.in-Some.other c.index-runs-other.result _ (omega (arith, c.requires.there, found_there c.args.runs.now c.args.passed.now c.args.next c.in-Some.other (subst (IsLeast c.args.runs.now c.args.passed.now c.args.next) c.in-Some.is c.requires.found))) c.index-runs-other.is c.key_at.ensures.key)
    (key_read c.args.runs.now c.args.passed.now c.args.next c.index-runs-next-2.result _ c.requires.there c.index-runs-next-2.is c.key_at-2.ensures.key) c.if-is_before.true)

pub returns : goal.returns
returns c =
    least_turns c.args.runs.now c.args.passed.now c.args.next c.in-Some.other c.requires.runs c.requires.there
    (left_read c.args.runs.now c.args.passed.now c.args.next _ c.index-runs-next.result c.requires.there c.index-runs-next.is c.len.ensures c.if-passed-next.false)
    (subst (IsLeast c.args.runs.now c.args.passed.now c.args.next) c.in-Some.is c.requires.found)
    (not_before_read _ _ _ _ _ c.is_before.ensures
    (key_read c.args.runs.now c.args.passed.now c.in-Some.other c.index-runs-other.result _ (omega (arith, c.requires.there, found_there c.args.runs.now c.args.passed.now c.args.next c.in-Some.other (subst (IsLeast c.args.runs.now c.args.passed.now c.args.next) c.in-Some.is c.requires.found))) c.index-runs-other.is c.key_at.ensures.key)
    (key_read c.args.runs.now c.args.passed.now c.args.next c.index-runs-next-2.result _ c.requires.there c.index-runs-next-2.is c.key_at-2.ensures.key) c.if-is_before.false)
