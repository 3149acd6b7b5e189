use Rattle.std.proofs.Common.{◌≡◌, List, ℕ, length, map, rules, sym, ap, ◌∙◌}
use Rattle.query_text.specs.declared.token.Token.{Token}
use Rattle.query_text.specs.declared.class.Declaration.{Declaration}
use Rattle.query_text.specs.declared.phase.Triple.{Triple}
use Rattle.query_text.specs.Grammar.{Written}
use Rattle.query_text.specs.Meaning.{query_of}
use Rattle.query_text.specs.Parsing.{seen}
use Rattle.query_text.specs.Building.{triple_said, columns_said, written_said}
use Rattle.query_text.proofs.Appearing.{query, query_made}
use Rattle.query_text.proofs.Said.{written_is}
use Rattle.query_text.proofs.build.query_of.Goals as goal

-- the query as it is written, of what was lent
abbrev lent : goal.After-drop-scope-4 → List Token → List Declaration → List Triple → Written
lent c columns declarations triples = record { columns = columns_said c.args.parser.now.all columns; triples = map (triple_said declarations) triples }

pub returns : goal.returns
returns c =
    let names = c.patterns_of.new.scope.variables.list.items in
    let labels = c.patterns_of.new.scope.labels.list.items in
    let columns = c.deref.result.now in
    let declarations = c.deref-2.result.now in
    let triples = c.deref-3.result.now in
    let count : c.len.result ≡ length names = search rules in
    let number : c.in-Ok.labels ≡ length labels = search rules in
    let made = query_made (lent c columns declarations triples) c.new-scope.result.variables.list.items c.new-scope.result.labels.list.items c.chosen.new.variables.list.items names labels
    c.in_ok-chosen.chosen c.len.result c.in-Ok.labels c.in_ok-columns.columns c.in_ok-patterns.patterns
    c.new-scope.ensures.variables c.new-scope.ensures.labels c.in_ok-chosen.ensures.names c.in_ok-patterns.ensures.variables c.in_ok-patterns.ensures.labels
    c.in_ok-chosen.ensures.chosen c.in_ok-columns.ensures count number c.in_ok-patterns.ensures.patterns in
    let said : lent c columns declarations triples ≡ written_said (seen c.args.parser.now) =
    ap (λ (x : List Token). lent c x declarations triples) c.deref.ensures.value
    ∙ ap (λ (x : List Declaration). lent c c.args.parser.now.columns.items x triples) c.deref-2.ensures.value
    ∙ ap (λ (x : List Triple). lent c c.args.parser.now.columns.items c.args.parser.now.declarations.list.items x) c.deref-3.ensures.value in
    record {
      made = λ written says.
          ap (λ (x : List (List ℕ)). query x c.in-Ok.labels c.in_ok-patterns.patterns c.in_ok-columns.columns) c.of.ensures
          ∙ made ∙ ap query_of (said ∙ sym (written_is (seen c.args.parser.now) written says));
    }
