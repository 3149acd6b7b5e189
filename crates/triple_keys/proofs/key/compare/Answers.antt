use Rattle.std.proofs.Common.{◌≡◌, ◌∙◌, sym, arith, rules}
use Rattle.triple_keys.specs.Keys.{AreIds}
use Rattle.triple_keys.specs.Orders.{ids_cmp}
use Rattle.triple_keys.proofs.Ordering.{key_bytes-cmp}
use Rattle.triple_keys.proofs.key.compare.Goals as goal

pub returns-clause-keys : goal.returns-clause-keys
returns-clause-keys c =
    let are : AreIds c.args.one.now = (omega arith, omega arith, omega arith) in
    let also : AreIds c.args.other.now = (omega arith, omega arith, omega arith) in
    let ids : c.cmp.result ≡ ids_cmp c.args.order c.args.one.now c.args.other.now = search rules in
    ids ∙ sym (key_bytes-cmp c.args.order c.args.one.now c.args.other.now are also)
