use Rattle.std.proofs.Common.{◌≡◌, [], ◌∷◌, ◌++◌, take}
use Rattle.std.specs.List.{flat_map}
use Rattle.bgp_model.specs.Cells.{texts_in}
use Rattle.bgp_model.specs.Table.{row_at, placed_line}
use Rattle.bgp_model.proofs.table.Table.write_lines.Given as goal

abbrev pub invariant-rows : goal.invariant-rows
invariant-rows l = record {
  text : l.draft.text ≡ l.initial.draft.text
      ++ flat_map (λ number. placed_line (texts_in l.cells-inside.bytes.items l.cells-inside.spans.items) (row_at l.self-inside.columns number l.self-inside.places.items) ++ 10 ∷ []) (take l.number-index l.self-inside.numbers.items);
  kept : l.draft.kept ≡ l.initial.draft.kept;
}
