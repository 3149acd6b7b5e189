use Rattle.std.proofs.Common.{◌≡◌, ℕ, List, ◌++◌, map, take}
use Rattle.nt_text.specs.Cell.{cell}
use Rattle.bgp_model.specs.Cells.{texts_in}
use Rattle.bgp_model.proofs.cells.Cells.of.Given as goal

-- whatever bytes follow
abbrev pub invariant-terms : goal.invariant-terms
invariant-terms l = (more : List ℕ) → texts_in (l.bytes.items ++ more) l.spans.items ≡ map cell (take l.term-index l.terms)
