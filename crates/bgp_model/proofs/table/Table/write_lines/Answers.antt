use Rattle.std.proofs.Common.{arith, map, ap, ◌∙◌}
use Rattle.nt_text.specs.Cell.{cell}
use Rattle.bgp_model.proofs.Placed.{lines_written}
use Rattle.bgp_model.proofs.table.Table.write_lines.Goals as goal

pub returns-clause-text : goal.returns-clause-text
returns-clause-text c =
    let table = c.self.inside in
    lines_written c.args.draft.now.text c.rows.draft.text _ table.terms.items table.columns table.places.items table.numbers.items c.rows.number-index _
    c.rows.invariant.text (omega arith) (c.cells.view_is ∙ c.in_ok-cells.ensures ∙ ap (map cell) c.deref.ensures.value) c.self.view_is
