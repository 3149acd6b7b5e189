use Rattle.change_model.proofs.LaterIds.{id_of_row}
use Rattle.change_model.proofs.known.id_in.Goals as goal

pub returns-in_default-clause-found : goal.returns-in_default-clause-found
returns-in_default-clause-found c time id changes gives = c.in_default.ensures time gives.0 changes gives.1 gives.2

pub returns-clause-found : goal.returns-clause-found
returns-clause-found c = id_of_row c.args.rows.now c.args.key.now c.in-Some.row.now c.id_of.result c.in-Some.ensures c.id_of.ensures.found
