use Rattle.std.proofs.Common.{rules}
use Rattle.term_core.specs.Term.{IsLabel}
use Rattle.nt_text.proofs.Labels.{whole_label-takes, whole_label-other, whole_label-no_text}
use Rattle.nt_text.proofs.label.label_of.Goals as goal

pub returns-in_default : goal.returns-in_default
returns-in_default c = whole_label-no_text c.args.bytes.now c.in_default.ensures

pub returns-then-is_label : goal.returns-then-is_label
returns-then-is_label c =
    let label : IsLabel c.in-Some.label.now = search rules in
    whole_label-takes c.args.bytes.now c.in-Some.label.now c.in-Some.ensures label

pub returns-else-is_label : goal.returns-else-is_label
returns-else-is_label c =
    let none : IsLabel c.in-Some.label.now → ⊥ = search rules in
    whole_label-other c.args.bytes.now c.in-Some.label.now c.in-Some.ensures none
