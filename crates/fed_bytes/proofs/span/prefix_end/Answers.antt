use Rattle.std.proofs.Common.{arith, ◌∙◌, refl}
use Rattle.fed_bytes.proofs.Prefixes.{last-below, end_of-split}
use Rattle.fed_bytes.proofs.span.prefix_end.Goals as goal

pub overflow_add-last : goal.overflow_add-last
overflow_add-last c = omega (arith, last-below c.args.prefix.now c.in-len1-up.len_at_least c.requires c.type_inv.prefix)

pub returns : goal.returns
returns c =
    let prefix = c.args.prefix.now in
    let below = last-below prefix c.in-len1-up.len_at_least c.requires c.type_inv.prefix in
    let made = c.from_bytes.ensures ∙ c.in_ok-push.ensures.items in
    let start = c.in_ok-extend_from_slice.ensures.items in
    rw (end_of-split prefix c.in-len1-up.len_at_least below, made, start, c.new-end.ensures.items) refl
