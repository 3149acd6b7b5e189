use Rattle.std.proofs.Common.{ℕ, List, ◌≤◌, length, sym, ap, subst, ◌∙◌}
use Rattle.nt_text.specs.Reading.{without_dot}
use Rattle.nt_text.proofs.Labels.{label_fits}
use Rattle.nt_text.proofs.token.read_label.Goals as goal

pub split_at-requires : goal.split_at-requires
split_at-requires c =
    subst (λ (x : List ℕ). length x ≤ length c.args.bytes.now) (sym (c.without_dot-label.ensures ∙ ap without_dot c.cut_run.ensures.run)) (label_fits c.args.bytes.now)
