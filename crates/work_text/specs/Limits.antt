-- What is too much for one work.
use Rattle.std.specs.Prelude.{ℕ}

-- how many bytes the text of a work may have
abbrev pub largest_work : ℕ
largest_work = 1048576
