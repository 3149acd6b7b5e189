use Rattle.std.proofs.Common.{◌≡◌, ◌+◌, length, ◌++◌}
use Rattle.std.specs.List.{flat_map}
use Rattle.body_codec.specs.Body.{term_field, AreTermsOf}
use Rattle.body_codec.specs.Reading.{AreSpellings}
use Rattle.body_codec.proofs.read_terms.read_terms.Given as goal

abbrev pub invariant-terms : goal.invariant-terms
invariant-terms l = record {
  cut : l.bytes ≡ flat_map term_field l.terms.items ++ l.rest;
  are : AreTermsOf l.kind l.terms.items;
  seen : AreSpellings l.terms.items l.seen.keys;
  long : length l.terms.items ≡ l._place;
  at : l.at + length l.rest ≡ length l.bytes + 6;
}
