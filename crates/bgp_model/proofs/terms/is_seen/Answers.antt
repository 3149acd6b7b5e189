use Rattle.std.proofs.Common.{sym, ◌∙◌}
use Rattle.bgp_model.proofs.Firsts.{found_term}
use Rattle.bgp_model.proofs.terms.is_seen.Goals as goal

pub returns : goal.returns
returns c =
    let found = found_term c.args.seen.now.keys c.args.term.now in
    (λ e. found.0 (sym c.contains.ensures ∙ e), λ h. c.contains.ensures ∙ found.1 h)
