use Rattle.std.proofs.Common.{Some, rules}
use Rattle.std.specs.Ordering.{nat_cmp, is_lt}
use Rattle.std.specs.Cmp.Lexicographic.{slice_cmp, nat_list_cmp_total}
use Rattle.std.proofs.lemmas.Fn.{always_returns_same}
use Rattle.std.proofs.lemmas.List.Sorted.{ranks_by}
use Rattle.bgp_model.specs.Table.{text_at}
use Rattle.bgp_model.proofs.ranks.by_text.Goals as goal

pub returns-clause-sorted : goal.returns-clause-sorted
returns-clause-sorted c =
    c.in_ok-sort_by.ensures.sorted (λ x y. is_lt (slice_cmp nat_cmp (text_at c.args.cells.now (Some x)) (text_at c.args.cells.now (Some y))))
    (ranks_by nat_list_cmp_total (λ number. text_at c.args.cells.now (Some number))) (always_returns_same _ _ _ (λ a r f k. search rules))
