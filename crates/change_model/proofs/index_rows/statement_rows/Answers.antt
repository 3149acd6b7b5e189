use Rattle.std.proofs.Common.{rules, map, ap, ◌∙◌}
use Rattle.std.proofs.lemmas.Fn.{dedup_same}
use Rattle.std.proofs.lemmas.List.Sorted.{IsPermutation-trans}
use Rattle.triple_keys.specs.declared.order.Order.TheVariants.{Spo, Pos, Osp}
use Rattle.triple_keys.specs.Keys.{key_bytes}
use Rattle.change_model.specs.EntryRows.{statement_row}
use Rattle.change_model.proofs.EntryOrdered.{AreOnce, one_key, first_rows, next_rows}
use Rattle.change_model.proofs.index_rows.statement_rows.Goals as goal

pub returns-clause-spo : goal.returns-clause-spo
returns-clause-spo c =
    let once : AreOnce c.args.statements.items c.dedup_by.new.self.items = record {
      sorted = c.sort.new.ids.items;
      moved = c.in_ok-sort.ensures.moved;
      up = c.in_ok-sort.ensures.sorted;
      once_is = dedup_same _ (one_key (key_bytes Spo)) _ (λ x y b f' x' y' k. search rules) _ _ c.dedup_by.ensures.filtered;
    } in
    first_rows c.args.kind c.args.time c.args.statements.items c.dedup_by.new.self.items _ once (c.in_ok-spo.ensures ∙ ap (map (statement_row Spo c.args.kind c.args.time)) c.deref.ensures.value)

pub returns-clause-pos : goal.returns-clause-pos
returns-clause-pos c =
    let once : AreOnce c.args.statements.items c.dedup_by.new.self.items = record {
      sorted = c.sort.new.ids.items;
      moved = c.in_ok-sort.ensures.moved;
      up = c.in_ok-sort.ensures.sorted;
      once_is = dedup_same _ (one_key (key_bytes Spo)) _ (λ x y b f' x' y' k. search rules) _ _ c.dedup_by.ensures.filtered;
    } in
    next_rows Pos c.args.kind c.args.time c.args.statements.items c.dedup_by.new.self.items c.sort-2.new.ids.items _ once
    c.in_ok-sort-2.ensures.moved c.in_ok-sort-2.ensures.sorted (c.in_ok-pos.ensures ∙ ap (map (statement_row Pos c.args.kind c.args.time)) c.deref-2.ensures.value)

pub returns-clause-osp : goal.returns-clause-osp
returns-clause-osp c =
    let once : AreOnce c.args.statements.items c.dedup_by.new.self.items = record {
      sorted = c.sort.new.ids.items;
      moved = c.in_ok-sort.ensures.moved;
      up = c.in_ok-sort.ensures.sorted;
      once_is = dedup_same _ (one_key (key_bytes Spo)) _ (λ x y b f' x' y' k. search rules) _ _ c.dedup_by.ensures.filtered;
    } in
    next_rows Osp c.args.kind c.args.time c.args.statements.items c.dedup_by.new.self.items c.sort-3.new.ids.items _ once
    (IsPermutation-trans c.dedup_by.new.self.items c.sort-2.new.ids.items c.sort-3.new.ids.items c.in_ok-sort-2.ensures.moved c.in_ok-sort-3.ensures.moved)
    c.in_ok-sort-3.ensures.sorted (c.in_ok-osp.ensures ∙ ap (map (statement_row Osp c.args.kind c.args.time)) c.deref-3.ensures.value)
