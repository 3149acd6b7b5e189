use Rattle.std.proofs.Common.{rules}
use Rattle.std.specs.Ordering.{is_lt}
use Rattle.std.specs.Cmp.Lexicographic.{nat_list_cmp_total}
use Rattle.std.proofs.lemmas.Fn.{always_returns_same}
use Rattle.std.proofs.lemmas.List.Sorted.{ranks_by}
use Rattle.triple_keys.specs.Keys.{key_bytes}
use Rattle.change_model.specs.EntryRows.{key_cmp}
use Rattle.change_model.proofs.index_rows.sort.Goals as goal

pub returns-clause-sorted : goal.returns-clause-sorted
returns-clause-sorted c =
    c.in_ok-sort_by.ensures.sorted (λ x y. is_lt (key_cmp c.args.order x y)) (ranks_by nat_list_cmp_total (λ ids. key_bytes c.args.order ids)) (always_returns_same _ _ _ (λ a r f k. (search rules, search rules)))
