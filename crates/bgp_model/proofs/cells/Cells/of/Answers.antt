use Rattle.std.proofs.Common.{arith}
use Rattle.bgp_model.proofs.Placed.{texts_all}
use Rattle.bgp_model.proofs.cells.Cells.of.Goals as goal

pub returns : goal.returns
returns c = texts_all _ c.terms.spans.items c.args.terms.now c.terms.term-index c.terms.invariant (omega arith)
