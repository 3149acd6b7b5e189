use Rattle.std.proofs.Common.{rules}
use Rattle.std.specs.Ordering.{is_lt}
use Rattle.std.specs.Cmp.Lexicographic.{nat_list_cmp_total}
use Rattle.std.proofs.lemmas.Fn.{dedup_same}
use Rattle.std.proofs.lemmas.List.Sorted.{ranks_by, answers_always}
use Rattle.row_core.specs.declared.rows.Row.{Row}
use Rattle.change_model.proofs.EntryOrdered.{by_key, one_key, each_order, each_kept, each_ordered}
use Rattle.change_model.proofs.index_rows.by_key.Goals as goal

pub returns-clause-order : goal.returns-clause-order
returns-clause-order c =
    let up = c.in_ok-sort_by.ensures.sorted (λ x y. is_lt (by_key (λ (r : Row). r.key) x y)) (ranks_by nat_list_cmp_total (λ row. row.key)) (answers_always _ _ _ (λ f a r g k. search rules)) in
    let once = dedup_same _ (one_key (λ (r : Row). r.key)) _ (λ x y b f' x' y' k. search rules) _ _ c.dedup_by.ensures.filtered in
    each_order c.args.rows.items _ _ _ (record { moved = c.in_ok-sort_by.ensures.permutation; up = up; once_is = once; made_is = c.of.ensures })

pub returns-clause-kept : goal.returns-clause-kept
returns-clause-kept c =
    let up = c.in_ok-sort_by.ensures.sorted (λ x y. is_lt (by_key (λ (r : Row). r.key) x y)) (ranks_by nat_list_cmp_total (λ row. row.key)) (answers_always _ _ _ (λ f a r g k. search rules)) in
    let once = dedup_same _ (one_key (λ (r : Row). r.key)) _ (λ x y b f' x' y' k. search rules) _ _ c.dedup_by.ensures.filtered in
    each_kept c.args.rows.items _ _ _ (record { moved = c.in_ok-sort_by.ensures.permutation; up = up; once_is = once; made_is = c.of.ensures })

pub returns-clause-ordered : goal.returns-clause-ordered
returns-clause-ordered c =
    let up = c.in_ok-sort_by.ensures.sorted (λ x y. is_lt (by_key (λ (r : Row). r.key) x y)) (ranks_by nat_list_cmp_total (λ row. row.key)) (answers_always _ _ _ (λ f a r g k. search rules)) in
    let once = dedup_same _ (one_key (λ (r : Row). r.key)) _ (λ x y b f' x' y' k. search rules) _ _ c.dedup_by.ensures.filtered in
    each_ordered c.args.rows.items _ _ _ (record { moved = c.in_ok-sort_by.ensures.permutation; up = up; once_is = once; made_is = c.of.ensures })
