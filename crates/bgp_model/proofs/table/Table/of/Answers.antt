use Rattle.std.proofs.Common.{ap, ◌∙◌}
use Rattle.bgp_model.specs.Table.{numbered_rows}
use Rattle.bgp_model.proofs.Placed.{all_numbered}
use Rattle.bgp_model.proofs.table.Table.of.Goals as goal

pub returns : goal.returns
returns c =
    ap (numbered_rows c.args.terms.items c.args.columns c.args.places.items) c.in_ok-numbers.ensures
    ∙ all_numbered c.args.terms.items c.args.columns c.args.count c.args.places.items
