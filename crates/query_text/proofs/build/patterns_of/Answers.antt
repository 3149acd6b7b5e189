use Rattle.query_text.specs.Meaning.{variables_of_node, labels_of_node}
use Rattle.query_text.proofs.Named.{triples_named, patterns_named}
use Rattle.query_text.proofs.build.patterns_of.Goals as goal

pub triples-preserved : goal.triples-preserved
triples-preserved c =
    let ds = c.args.declarations.now in
    let old = c.triples.scope in
    let new = c.pattern_of.new.scope in
    record {
      stand = c.in_ok-pattern_of.ensures.stand;
      variables = triples_named variables_of_node ds c.args.scope.now.variables.list.items old.variables.list.items new.variables.list.items c.args.triples.now c.triples.triple-index _
          c.triples-test.true c.triples.invariant.variables c.in_ok-pattern_of.ensures.variables;
      labels = triples_named labels_of_node ds c.args.scope.now.labels.list.items old.labels.list.items new.labels.list.items c.args.triples.now c.triples.triple-index _
          c.triples-test.true c.triples.invariant.labels c.in_ok-pattern_of.ensures.labels;
      patterns = patterns_named ds old.variables.list.items old.labels.list.items new.variables.list.items new.labels.list.items c.args.triples.now c.triples.triple-index _
          c.triples.patterns.items c.push.new.self.items c.in_ok-pattern_of.field-0 c.triples-test.true c.triples.invariant.patterns c.in_ok-pattern_of.ensures.variables
          c.in_ok-pattern_of.ensures.labels c.in_ok-pattern_of.ensures.pattern c.in_ok-push.ensures.items;
    }
