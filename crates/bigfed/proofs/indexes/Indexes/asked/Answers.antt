use Rattle.std.proofs.Common.{◌↔◌, sym, subst}
use Rattle.base_core.specs.Lists.{Has}
use Rattle.triple_keys.specs.declared.key.Ids.{Ids}
use Rattle.join_core.specs.Asking.{Agrees}
use Rattle.bigfed.specs.Indexed.{IsShownIn, rows_in}
use Rattle.bigfed.proofs.GraphIds.{shown_agrees}
use Rattle.bigfed.proofs.indexes.Indexes.asked.Goals as goal

pub returns : goal.returns
returns c history graph are is =
    let ask = c.args.ask.now in
    let found = c.in_ok-found.found.items in
    subst (λ triples. Agrees ask triples graph) (sym c.of.ensures)
    (shown_agrees history graph c.args.self.now ask found are is
    (subst (λ window. (ids : Ids) → Has found ids ↔ IsShownIn (rows_in window) ask.order ask.span ids) c.window-window.ensures c.in_ok-found.ensures.shown)
    c.in_ok-found.ensures.distinct)
