use Rattle.base_core.proofs.Numbers.{first_number}
use Rattle.base_core.proofs.number.first_u64.Goals as goal

pub returns-clause-cut : goal.returns-clause-cut
returns-clause-cut c =
    let parts = c.in-Some.ensures.cases in
    first_number c.args.bytes.now _ _ _ parts.0 parts.1 parts.2 c.type_inv.bytes c.read_u64.ensures
