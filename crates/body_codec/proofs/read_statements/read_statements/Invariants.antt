use Rattle.std.proofs.Common.{◌≡◌, ◌≤◌, ◌+◌, length}
use Rattle.body_codec.specs.Body.{spelled_total}
use Rattle.body_codec.specs.Reading.{AreReadStatements}
use Rattle.body_codec.proofs.read_statements.read_statements.Given as goal

abbrev pub invariant-statements : goal.invariant-statements
invariant-statements l = record {
  read : AreReadStatements l.terms l.bytes l.statements.items l.next l.rest;
  long : length l.statements.items ≡ l._place;
  total : l.spelled ≡ spelled_total l.statements.items;
  few : l.spelled ≤ 38254432;
  at : l.at + length l.rest ≡ l.start + length l.bytes;
}
