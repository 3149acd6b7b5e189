-- What is too much: a term whose spelling is too long, and too many statements. And what all spellings come to at most.
use Rattle.std.specs.Prelude.{ℕ, ◌+◌, ◌≤◌, List, length}
use Rattle.std.specs.List.{AllByRecursion, sum_by}
use Rattle.term_core.specs.declared.term.Term.{Term}
use Rattle.term_core.specs.declared.statement.Statement.{Statement}
use Rattle.term_core.specs.Spelling.{spelling}

-- how many bytes a document may have
abbrev pub largest_document : ℕ
largest_document = 33554432

-- how many statements a document may have
abbrev pub most_statements : ℕ
most_statements = 100000

-- how many bytes the spelling of a term may have
abbrev pub longest_spelling : ℕ
longest_spelling = 65535

-- the spelling of the term is not too long
abbrev pub IsShort : Term → Type 0
IsShort term = length (spelling term) ≤ longest_spelling

-- no term of the statement is too long
pub record HasShortTerms (statement : Statement) : Type 0 where
  pub subject : IsShort statement.subject
  pub predicate : IsShort statement.predicate
  pub object : IsShort statement.object

pub record AreWithinLimits (statements : List Statement) : Type 0 where
  pub short : AllByRecursion HasShortTerms statements
  pub few : length statements ≤ most_statements

-- how many bytes the spellings of its three terms have
abbrev pub spelled : Statement → ℕ
spelled statement = length (spelling statement.subject) + length (spelling statement.predicate) + length (spelling statement.object)

-- how many bytes the spellings of all terms have, where each stands as often as it is said
abbrev pub all_spelled : List Statement → ℕ
all_spelled statements = sum_by spelled statements

-- how many bytes they have at most: those of the document, and 47 more for each statement
abbrev pub most_spelled : ℕ
most_spelled = 38254432
