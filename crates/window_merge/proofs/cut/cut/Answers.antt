use Rattle.std.proofs.Common.{◌<◌, length, sym, ap, ◌∙◌, subst, arith}
use Rattle.row_core.specs.declared.rows.Row.{Row}
use Rattle.row_core.specs.Rows.{StandInOrder}
use Rattle.window_merge.specs.Merging.{IsCut, AreOfKeys}
use Rattle.window_merge.specs.Parting.{ArePartedAt}
use Rattle.window_merge.proofs.Counting.{key_read}
use Rattle.window_merge.proofs.Cutting.{front_order, cut_at_end, cut_at_key}
use Rattle.window_merge.proofs.cut.cut.Goals as goal

pub count_of_keys-count-requires : goal.count_of_keys-count-requires
count_of_keys-count-requires c =
    subst StandInOrder (sym (c.as_slice-2.ensures.value ∙ c.truncate.ensures.items)) (front_order c.args.rows.items c.count_before_end.result c.requires)

pub returns-then-count-len : goal.returns-then-count-len
returns-then-count-len c =
    let fitting = c.truncate.new.self.items in
    let parted = subst (λ list. ArePartedAt list c.args.end c.count_before_end.result) c.as_slice.ensures.value c.count_before_end.ensures in
    let counted = subst (λ list. AreOfKeys list c.args.most c.count_of_keys-count.result) c.as_slice-2.ensures.value c.count_of_keys-count.ensures in
    let long = c.truncate.new.self.ok.0 in
    subst (λ list. IsCut c.args.rows.items c.args.end c.args.most (record { rows = list; next = c.args.end })) (sym c.of.ensures)
    (cut_at_end c.args.rows.items fitting c.args.end c.args.most c.count_before_end.result c.count_of_keys-count.result parted c.truncate.ensures.items counted
    (omega (arith, c.if-count-len.true, c.len.ensures, long)))

pub returns : goal.returns
returns c =
    let fitting = c.truncate.new.self.items in
    let parted = subst (λ list. ArePartedAt list c.args.end c.count_before_end.result) c.as_slice.ensures.value c.count_before_end.ensures in
    let counted = subst (λ list. AreOfKeys list c.args.most c.count_of_keys-count.result) c.as_slice-2.ensures.value c.count_of_keys-count.ensures in
    let long = c.truncate.new.self.ok.0 in
    let within : c.count_of_keys-count.result < length fitting = omega (arith, c.if-count-len.false, c.len.ensures, long) in
    cut_at_key c.args.rows.items fitting c.args.end c.args.most c.count_before_end.result c.count_of_keys-count.result _ _ c.requires parted c.truncate.ensures.items counted within
    (c.in_ok-next.ensures ∙ key_read fitting c.count_of_keys-count.result c.index.result.now _ within c.index.ensures (ap (λ (r : Row). r.key) c.index.ensures)) (c.of-2.ensures ∙ c.truncate-2.ensures.items)
