use Rattle.std.proofs.Common.{◌≡◌, ◌++◌, ap, sym, ◌∙◌}
use Rattle.std.specs.Char.{encode_utf8}
use Rattle.term_core.proofs.Labels.{label_begun, label_not_begun}
use Rattle.term_core.proofs.parts.is_label.Goals as goal

pub returns-then-begins_label : goal.returns-then-begins_label
returns-then-begins_label c =
    let cut : c.args.text.now ≡ encode_utf8 c.in-Some.first ++ c.as_str.result.now =
    sym c.chars-characters.ensures.rest ∙ c.in-Some.ensures.steps.0 ∙ ap (λ l. encode_utf8 c.in-Some.first ++ l) (sym c.as_str.ensures) in
    label_begun c.args.text.now c.as_str.result.now c.in-Some.first c.begins_label.result c.may_follow.result c.utf8.text cut
    c.begins_label.ensures c.if-begins_label.true c.may_follow.ensures

pub returns-else-begins_label : goal.returns-else-begins_label
returns-else-begins_label c = (
  λ t. let off = c.if-begins_label.false in absurd cc,
  λ h. absurd (label_not_begun c.args.text.now _ c.in-Some.first c.begins_label.result c.utf8.text (sym c.chars-characters.ensures.rest ∙ c.in-Some.ensures.steps.0)
      c.begins_label.ensures c.if-begins_label.false h),
)
