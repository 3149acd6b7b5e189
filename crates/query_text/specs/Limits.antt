-- What is too much for one query.
use Rattle.std.specs.Prelude.{ℕ}

-- how many bytes the text of a query may have
abbrev pub largest_query : ℕ
largest_query = 65536

-- how many patterns a query may have
abbrev pub most_patterns : ℕ
most_patterns = 16
