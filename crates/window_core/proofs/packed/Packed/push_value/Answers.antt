use Rattle.std.proofs.Common.{◌∷◌, [], ◌++◌, Some, refl, ap, ◌∙◌, append_assoc}
use Rattle.row_core.specs.declared.rows.Cell.TheVariants.{Value}
use Rattle.window_core.specs.Packed.{row_with}
use Rattle.window_core.proofs.Packing.{on_err, kept_rows, kept_stored, more_rows, more_stored, value_stored, value_row}
use Rattle.window_core.proofs.packed.Packed.push_value.Goals as goal

pub returns-in_err-extend_from_slice-2-clause-err : goal.returns-in_err-extend_from_slice-2-clause-err
returns-in_err-extend_from_slice-2-clause-err c =
    on_err _ _ (kept_rows _ c.args.key.now _ _ _ (c.in_err-extend_from_slice-2.ensures.items ∙ c.in_ok-extend_from_slice.ensures.items) refl c.self.invariant ∙ c.self.view_is)

pub invariant_of-self-in_err-push : goal.invariant_of-self-in_err-push
invariant_of-self-in_err-push c =
    kept_stored _ (c.args.key.now ++ c.args.value.now) _ _ _
    (c.in_ok-extend_from_slice-2.ensures.items ∙ ap (λ list. list ++ c.args.value.now) c.in_ok-extend_from_slice.ensures.items ∙ append_assoc _ c.args.key.now c.args.value.now)
    c.in_err-push.ensures.items c.self.invariant

pub returns-in_err-push-clause-err : goal.returns-in_err-push-clause-err
returns-in_err-push-clause-err c =
    on_err _ _ (kept_rows _ (c.args.key.now ++ c.args.value.now) _ _ _
    (c.in_ok-extend_from_slice-2.ensures.items ∙ ap (λ list. list ++ c.args.value.now) c.in_ok-extend_from_slice.ensures.items ∙ append_assoc _ c.args.key.now c.args.value.now)
    c.in_err-push.ensures.items c.self.invariant ∙ c.self.view_is)

pub invariant_of-self-2 : goal.invariant_of-self-2
invariant_of-self-2 c =
    let whole = c.in_ok-extend_from_slice-2.ensures.items ∙ ap (λ list. list ++ c.args.value.now) c.in_ok-extend_from_slice.ensures.items ∙ append_assoc _ c.args.key.now c.args.value.now in
    let begins = c.len-begins.ensures ∙ c.self.inside.bytes.ok.0 in
    more_stored _ (c.args.key.now ++ c.args.value.now) _ _ _ _ whole c.in_ok-push.ensures.items c.self.invariant
    (value_stored _ c.args.key.now c.args.value.now _ _ _ _ whole begins c.in-Ok-Ok.ensures.1 (ap Some c.in-Ok-Ok.ensures'.1))

pub returns-clause-ok : goal.returns-clause-ok
returns-clause-ok c =
    let whole = c.in_ok-extend_from_slice-2.ensures.items ∙ ap (λ list. list ++ c.args.value.now) c.in_ok-extend_from_slice.ensures.items ∙ append_assoc _ c.args.key.now c.args.value.now in
    let begins = c.len-begins.ensures ∙ c.self.inside.bytes.ok.0 in
    more_rows _ (c.args.key.now ++ c.args.value.now) _ _ _ _ _ whole c.in_ok-push.ensures.items c.self.invariant
    (value_row _ c.args.key.now c.args.value.now _ _ c.args.time whole begins c.in-Ok-Ok.ensures.1 (ap Some c.in-Ok-Ok.ensures'.1) refl)
    ∙ ap (λ rows. rows ++ row_with c.args.key.now c.args.time (Value c.args.value.now) ∷ []) c.self.view_is
