-- Private: texts that stand in one list of bytes, one behind the other.
use Rattle.std.specs.Prelude.{ℕ, List, map, take, drop}
use Rattle.bgp_model.specs.declared.cells.Span.{Span}

abbrev pub text_in : List ℕ → Span → List ℕ
text_in bytes span = take span.length (drop span.start bytes)

abbrev pub texts_in : List ℕ → List Span → List (List ℕ)
texts_in bytes spans = map (text_in bytes) spans
