use Rattle.std.proofs.Common.{◌≡◌, map, take}
use Rattle.query_text.specs.Meaning.{from_triples, variables_of_node, labels_of_node}
use Rattle.query_text.specs.Building.{Stand, with_names, triple_said, ArePatterns}
use Rattle.query_text.proofs.build.patterns_of.Given as goal

abbrev pub invariant-triples : goal.invariant-triples
invariant-triples l = record {
  stand : Stand l.scope;
  variables : l.scope.variables.list.items
      ≡ with_names l.fn.scope.variables.list.items (from_triples variables_of_node (map (triple_said l.declarations) (take l.triple-index l.triples)));
  labels : l.scope.labels.list.items
      ≡ with_names l.fn.scope.labels.list.items (from_triples labels_of_node (map (triple_said l.declarations) (take l.triple-index l.triples)));
  patterns : ArePatterns l.scope.variables.list.items l.scope.labels.list.items (map (triple_said l.declarations) (take l.triple-index l.triples)) l.patterns.items;
}
