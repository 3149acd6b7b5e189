use Rattle.std.proofs.Common.{◌∙◌, ◌++◌, ap}
use Rattle.std.proofs.lemmas.Result.{IfOk-weaker}
use Rattle.fed_bytes.specs.Keys.{IsIn}
use Rattle.triple_keys.specs.Keys.{bound_bytes}
use Rattle.triple_keys.proofs.Spelling.{span_agrees}
use Rattle.triple_keys.proofs.span.span_of.Goals as goal

pub returns-clause-keys : goal.returns-clause-keys
returns-clause-keys c =
    let one = c.new-prefix.ensures.items in
    let two = c.in_ok-put_bound.ensures.ok ∙ ap (λ start. start ++ bound_bytes c.arrange-bound.result.first) one in
    let three = c.in_ok-put_bound-2.ensures.ok ∙ ap (λ start. start ++ bound_bytes c.arrange-bound.result.second) two in
    let four = c.in_ok-put_bound-3.ensures.ok ∙ ap (λ start. start ++ bound_bytes c.arrange-bound.result.third) three in
    IfOk-weaker c.of_prefix.result _ _
    (λ span found. span_agrees c.args.order c.args.bound _ _ _ _ (IsIn span) c.requires
    c.arrange-bound.ensures.first c.arrange-bound.ensures.second c.arrange-bound.ensures.third
    c.put_bound.ensures.fits c.put_bound-2.ensures.fits c.put_bound-3.ensures.fits (c.deref.ensures.value ∙ four) found) c.of_prefix.ensures.keys
