use Rattle.std.proofs.Common.{◌∙◌, ◌++◌, ◌∷◌, [], ap}
use Rattle.fed_bytes.proofs.Prefixes.{key_span}
use Rattle.fed_bytes.proofs.span.Span.of_key.Goals as goal

pub returns-clause-only : goal.returns-clause-only
returns-clause-only c other =
    key_span c.args.key.now _ _ c.in_ok-left.ensures
    (c.from_bytes.ensures ∙ c.in_ok-push.ensures.items ∙ ap (λ front. front ++ 0 ∷ []) (c.in_ok-extend_from_slice.ensures.items ∙ ap (λ front. front ++ c.args.key.now) c.new-end.ensures.items))
    other
