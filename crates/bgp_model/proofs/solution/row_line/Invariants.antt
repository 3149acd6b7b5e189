use Rattle.std.proofs.Common.{◌≡◌, ◌∷◌, ◌++◌, take}
use Rattle.std.specs.List.{flat_map}
use Rattle.nt_text.specs.Cell.{cell_of}
use Rattle.bgp_model.proofs.solution.row_line.Given as goal

abbrev pub invariant-cells : goal.invariant-cells
invariant-cells l = l.line.items ≡ l.initial.line.items ++ flat_map (λ value. 9 ∷ cell_of value) (take l.cell-index l.others)
