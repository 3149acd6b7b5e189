use Rattle.std.proofs.Common.{◌++◌, ap, sym, ◌∙◌}
use Rattle.bgp_model.specs.declared.query.Slot.TheVariants.{Var, Label}
use Rattle.query_text.specs.declared.value.Value.{Value}
use Rattle.query_text.specs.Meaning.{slot_of}
use Rattle.query_text.specs.Building.{node_in}
use Rattle.query_text.proofs.Named.{place_of-known}
use Rattle.query_text.proofs.naming.Scope.slot.Goals as goal

pub returns-in_ok-place-in-Variable-clause-slot : goal.returns-in_ok-place-in-Variable-clause-slot
returns-in_ok-place-in-Variable-clause-slot c more others =
    ap Var (sym (place_of-known _ more c.in-Variable.name _ c.in_ok-place-in-Variable.ensures.place))
    ∙ ap (λ (v : Value). slot_of (c.place.new.self.list.items ++ more) (c.args.self.now.labels.list.items ++ others) (node_in v)) (sym c.in-Variable.is)

pub returns-in_ok-place-in-Label-clause-slot : goal.returns-in_ok-place-in-Label-clause-slot
returns-in_ok-place-in-Label-clause-slot c more others =
    ap Label (sym (place_of-known _ others c.in-Label.label _ c.in_ok-place-in-Label.ensures.place))
    ∙ ap (λ (v : Value). slot_of (c.args.self.now.variables.list.items ++ more) (c.place-in-Label.new.self.list.items ++ others) (node_in v)) (sym c.in-Label.is)
