use Rattle.std.proofs.Common.{◌≡◌, ℕ, List, Option, map, sym, ap, subst, ◌∙◌, rules}
use Rattle.std.specs.Ordering.{nat_cmp, is_lt}
use Rattle.std.specs.Cmp.Lexicographic.{slice_cmp, nat_list_cmp_total}
use Rattle.std.specs.List.Sorted.{IsPermutation, IsSortedBy}
use Rattle.std.proofs.lemmas.Fn.{always_returns_same}
use Rattle.std.proofs.lemmas.List.Sorted.{IsPermutation-map, ranks_by}
use Rattle.nt_text.specs.Cell.{cell}
use Rattle.bgp_model.specs.declared.solution.Solution.{Solution}
use Rattle.bgp_model.specs.Table.{row_with, row_at, numbered_rows, HasTerms, rank_at, AreRanks}
use Rattle.bgp_model.proofs.Lines.{sorted_rows}
use Rattle.bgp_model.proofs.table.Table.in_order.Goals as goal

pub returns-clause-permuted : goal.returns-clause-permuted
returns-clause-permuted c =
    let table = c.self.inside in
    subst (λ (rows : List Solution). IsPermutation rows (numbered_rows table.terms.items table.columns table.places.items c.sort_by.new.self.items)) c.self.view_is
    (IsPermutation-map (λ number. row_with table.terms.items (row_at table.columns number table.places.items)) _ _ c.in_ok-sort_by.ensures.permutation)

pub returns-clause-sorted : goal.returns-clause-sorted
returns-clause-sorted c =
    let table = c.self.inside in
    let are : AreRanks (map cell table.terms.items) c.in_ok-ranks.ranks.items =
    subst (λ (texts : List (List ℕ)). AreRanks texts c.in_ok-ranks.ranks.items)
    (c.in_ok-cells.ensures ∙ ap (map cell) c.deref.ensures.value) c.in_ok-ranks.ensures in
    let ranks : c.in_ok-ranks-2.ranks.items ≡ map (rank_at c.in_ok-ranks.ranks.items) table.places.items =
    c.in_ok-ranks-2.ensures ∙ ap (λ (rs : List ℕ). map (rank_at rs) c.deref-3.result.now) c.deref-2.ensures.value
    ∙ ap (map (rank_at c.in_ok-ranks.ranks.items)) c.deref-3.ensures.value in
    let has : HasTerms (numbered_rows table.terms.items table.columns table.places.items table.numbers.items) = subst HasTerms (sym c.self.view_is) c.requires in
    let up : IsSortedBy (λ one other. is_lt (slice_cmp nat_cmp (row_at table.columns one c.in_ok-ranks-2.ranks.items) (row_at table.columns other c.in_ok-ranks-2.ranks.items)))
    c.sort_by.new.self.items =
    c.in_ok-sort_by.ensures.sorted
    (λ one other. is_lt (slice_cmp nat_cmp (row_at table.columns one c.in_ok-ranks-2.ranks.items) (row_at table.columns other c.in_ok-ranks-2.ranks.items)))
    (ranks_by nat_list_cmp_total (λ number. row_at table.columns number c.in_ok-ranks-2.ranks.items)) (always_returns_same _ _ _ (λ a r f k. search rules)) in
    sorted_rows table.terms.items c.in_ok-ranks.ranks.items table.columns table.places.items table.numbers.items c.sort_by.new.self.items are has
    c.in_ok-sort_by.ensures.permutation
    (subst (λ (rs : List ℕ). IsSortedBy (λ one other. is_lt (slice_cmp nat_cmp (row_at table.columns one rs) (row_at table.columns other rs))) c.sort_by.new.self.items) ranks up)
