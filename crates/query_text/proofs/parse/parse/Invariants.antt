use Rattle.std.proofs.Common.{length}
use Rattle.query_text.specs.Parsing.{KnowsPrefixes, seen}
use Rattle.query_text.specs.Ahead.{IsQuiet}
use Rattle.query_text.proofs.Steps.{SoFar}
use Rattle.query_text.proofs.parse.parse.Given as goal

abbrev pub invariant-tokens : goal.invariant-tokens
invariant-tokens l = record {
  knows : KnowsPrefixes l.parser.declarations;
  so_far : SoFar l.text l.rest (seen l.parser);
  quiet : IsQuiet l.quiet l.rest;
}

abbrev pub decreases-tokens : goal.decreases-tokens
decreases-tokens l = length l.rest
