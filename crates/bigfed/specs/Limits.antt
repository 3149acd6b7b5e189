-- What is too much for one work, and for one answer. The limits of a document, a query and a work stand with their readers.
use Rattle.std.specs.Prelude.{ℕ}

-- how many bytes the documents of a work may have together
abbrev pub largest_documents : ℕ
largest_documents = 536870912

-- how many rows an answer may have
abbrev pub most_rows : ℕ
most_rows = 1000000
