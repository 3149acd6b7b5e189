use Rattle.base_core.proofs.Numbers.{read_length}
use Rattle.base_core.proofs.number.get_u32.Goals as goal

pub returns-clause-spelled : goal.returns-clause-spelled
returns-clause-spelled c =
    let cut = c.in-Some.ensures.cases in
    let field = c.in-Some-split_at_checked.ensures.cases in
    read_length c.args.bytes.now c.args.at _ _ _ cut.2 field.0 field.1 c.type_inv.bytes c.read_u32.ensures
