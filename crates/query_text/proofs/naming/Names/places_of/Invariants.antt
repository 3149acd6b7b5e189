use Rattle.std.proofs.Common.{◌≡◌, ◌++◌, List, ℕ, map, take}
use Rattle.query_text.specs.Meaning.{place_of}
use Rattle.query_text.specs.Building.{KnowsNames, with_names, names_said}
use Rattle.query_text.proofs.naming.Names.places_of.Given as goal

abbrev pub invariant-tokens : goal.invariant-tokens
invariant-tokens l = record {
  knows : KnowsNames l.self.list.items l.self.places;
  names : l.self.list.items ≡ with_names l.fn.self.list.items (names_said (take l.token-index l.tokens));
  places : (more : List (List ℕ)) → l.places.items ≡ map (place_of (l.self.list.items ++ more)) (names_said (take l.token-index l.tokens));
}
