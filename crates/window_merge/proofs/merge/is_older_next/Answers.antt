use Rattle.window_merge.proofs.Merges.{newer_read}
use Rattle.window_merge.proofs.merge.is_older_next.Goals as goal

pub returns-clause-newer : goal.returns-clause-newer
returns-clause-newer c = λ is.
    newer_read c.args.older.now.items c.args.newer.now.items c.in-Some.one.now c.in-Some-front.other.now _ _ c.is_before.result c.in-Some.ensures.lookup c.in-Some-front.ensures.lookup
    c.in-Some-front.ensures.item.0 c.bytes.ensures c.bytes-2.ensures c.is_before.ensures is
