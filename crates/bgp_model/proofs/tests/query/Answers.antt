use Rattle.std.proofs.Common.{◌≡◌, ℕ, ◌<◌, List, length, refl, ap, subst, sym, ◌∙◌}
use Rattle.std.specs.List.{AllByRecursion}
use Rattle.bgp_model.specs.declared.query.Query.{Query}
use Rattle.bgp_model.proofs.tests.query.Goals as goal

pub returns : goal.returns
returns c =
    let asked : Query = record { names = c.of-names.result; labels = 2; patterns = c.in_ok-patterns.patterns; columns = c.in_ok-columns.columns } in
    let Below : ℕ → Type 0 = λ count. AllByRecursion (λ column. column < count) c.in_ok-columns.columns in
    let three : length asked.names ≡ 3 = ap length (c.of-names.ensures ∙ c.in_ok-vec.ensures.items) in
    record { patterns = c.in_ok-patterns.ensures asked three refl; columns = subst Below (sym three) c.in_ok-columns.ensures }
