use Rattle.std.proofs.Common.{◌≡◌, ◌∷◌, ◌++◌, take}
use Rattle.std.specs.List.{flat_map}
use Rattle.bgp_model.specs.Table.{text_at}
use Rattle.bgp_model.proofs.table.write_cells.Given as goal

abbrev pub invariant-cells : goal.invariant-cells
invariant-cells l = record {
  text : l.draft.text ≡ l.initial.draft.text ++ flat_map (λ place. 9 ∷ text_at l.cells place) (take l.place-index l.others);
  kept : l.draft.kept ≡ l.initial.draft.kept;
}
