use Rattle.std.proofs.lemmas.Result.{IfOk-weaker}
use Rattle.change_model.proofs.EntryNumbering.{bound_alike, node_rules}
use Rattle.change_model.proofs.numbering.Giving.id_for.Goals as goal

pub returns-in-Some-clause-given : goal.returns-in-Some-clause-given
returns-in-Some-clause-given c =
    let at = c.in-Some.ensures in
    IfOk-weaker c.node_id.result _ _
    (λ given tells base known next key is. bound_alike base known c.args.time at.0 c.args.term.now c.in-Some.label.now given _ _ _ at.1
    (tells base known (node_rules base known c.args.time at.0 c.args.term.now c.in-Some.label.now c.args.id at.1 next) is))
    c.node_id.ensures.given

pub returns-in-None-clause-given : goal.returns-in-None-clause-given
returns-in-None-clause-given c = IfOk-weaker c.plain_id.result _ _ (λ given tells base known next key is. tells base known c.args.time c.in-None.ensures next key is) c.plain_id.ensures.given
