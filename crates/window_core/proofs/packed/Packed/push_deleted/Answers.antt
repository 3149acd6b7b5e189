use Rattle.std.proofs.Common.{◌∷◌, [], ◌++◌, refl, ap, ◌∙◌}
use Rattle.row_core.specs.declared.rows.Cell.TheVariants.{Deleted}
use Rattle.window_core.specs.Packed.{row_with}
use Rattle.window_core.proofs.Packing.{on_err, kept_rows, more_rows, more_stored, deleted_stored, deleted_row}
use Rattle.window_core.proofs.packed.Packed.push_deleted.Goals as goal

pub returns-in_err-push-clause-err : goal.returns-in_err-push-clause-err
returns-in_err-push-clause-err c =
    on_err _ _ (kept_rows _ c.args.key.now _ _ _ c.in_ok-extend_from_slice.ensures.items c.in_err-push.ensures.items c.self.invariant ∙ c.self.view_is)

pub invariant_of-self-2 : goal.invariant_of-self-2
invariant_of-self-2 c =
    let begins = c.len-begins.ensures ∙ c.self.inside.bytes.ok.0 in
    more_stored _ c.args.key.now _ _ _ _ c.in_ok-extend_from_slice.ensures.items c.in_ok-push.ensures.items c.self.invariant
    (deleted_stored _ c.args.key.now _ _ _ _ c.in_ok-extend_from_slice.ensures.items begins c.in-Ok.ensures.1 refl)

pub returns-clause-ok : goal.returns-clause-ok
returns-clause-ok c =
    let begins = c.len-begins.ensures ∙ c.self.inside.bytes.ok.0 in
    more_rows _ c.args.key.now _ _ _ _ _ c.in_ok-extend_from_slice.ensures.items c.in_ok-push.ensures.items c.self.invariant
    (deleted_row _ c.args.key.now _ _ c.args.time c.in_ok-extend_from_slice.ensures.items begins c.in-Ok.ensures.1 refl refl)
    ∙ ap (λ rows. rows ++ row_with c.args.key.now c.args.time Deleted ∷ []) c.self.view_is
