use Rattle.std.proofs.Common.{arith, ℕ, List, length, sym, ap, subst, ◌∙◌, refl}
use Rattle.std.specs.List.{range_with_len}
use Rattle.std.specs.List.Sorted.{IsPermutation, IsSortedByKey}
use Rattle.std.specs.Ordering.{nat_cmp}
use Rattle.std.specs.Cmp.Lexicographic.{slice_cmp}
use Rattle.std.specs.Prelude.{Some}
use Rattle.bgp_model.specs.Table.{text_at}
use Rattle.bgp_model.proofs.Ranking.{Ranked-more, ranks_of_all, numbers_inside}
use Rattle.bgp_model.proofs.ranks.ranks_of.Goals as goal

pub index_mut-requires : goal.index_mut-requires
index_mut-requires c =
    let numbers = c.deref-number-items.result.now in
    let moved : IsPermutation (range_with_len 0 (length c.args.cells.now)) numbers =
    subst (λ (ns : List ℕ). IsPermutation (range_with_len 0 (length c.args.cells.now)) ns) (sym c.deref-number-items.ensures.value) c.in_ok-numbers.ensures.all in
    omega (arith, numbers_inside c.args.cells.now numbers moved c.numbers.number-index (omega arith), c.numbers.invariant.long)

pub numbers-preserved : goal.numbers-preserved
numbers-preserved c =
    let numbers = c.deref-number-items.result.now in
    let moved : IsPermutation (range_with_len 0 (length c.args.cells.now)) numbers =
    subst (λ (ns : List ℕ). IsPermutation (range_with_len 0 (length c.args.cells.now)) ns) (sym c.deref-number-items.ensures.value) c.in_ok-numbers.ensures.all in
    let by_text : IsSortedByKey (λ number. text_at c.args.cells.now (Some number)) (slice_cmp nat_cmp) numbers =
    subst (λ (ns : List ℕ). IsSortedByKey (λ number. text_at c.args.cells.now (Some number)) (slice_cmp nat_cmp) ns) (sym c.deref-number-items.ensures.value) c.in_ok-numbers.ensures.sorted in
    Ranked-more c.args.cells.now numbers c.numbers.ranks.items _ c.numbers.number-index c.numbers.rank c.rank_behind-rank.result _ c.numbers.last.now c.at-text.result.now
    c.numbers.invariant by_text (omega arith) refl (omega (arith, numbers_inside c.args.cells.now numbers moved c.numbers.number-index (omega arith), c.numbers.invariant.long))
    c.at-text.ensures c.rank_behind-rank.ensures.same c.rank_behind-rank.ensures.next refl

pub returns : goal.returns
returns c =
    let numbers = c.deref-number-items.result.now in
    let moved : IsPermutation (range_with_len 0 (length c.args.cells.now)) numbers =
    subst (λ (ns : List ℕ). IsPermutation (range_with_len 0 (length c.args.cells.now)) ns) (sym c.deref-number-items.ensures.value) c.in_ok-numbers.ensures.all in
    ranks_of_all c.args.cells.now numbers c.numbers.ranks.items c.numbers.number-index c.numbers.rank c.numbers.last.now (omega arith) moved c.numbers.invariant
