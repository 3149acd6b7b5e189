-- In how many bytes the terms of statements are spelled.
use Rattle.std.proofs.Common.{◌≡◌, ℕ, ◌+◌, List, [], ◌∷◌, ◌++◌, length, ap, arith}
use Rattle.term_core.specs.declared.statement.Statement.{Statement}
use Rattle.term_core.specs.declared.term.Term.{Term}
use Rattle.term_core.specs.Spelling.{spelling}
use Rattle.body_codec.specs.declared.read_statements.Named.{Named}
use Rattle.body_codec.specs.Body.{spelled_in, spelled_total}
use Rattle.body_codec.specs.Reading.{named_in, IsStatementOf}

size_of : Term → ℕ
size_of term = length (spelling term)

pub spelled_named : (found : Named) (statement : Statement) → IsStatementOf found statement → spelled_in statement ≡ named_in found
unfolding size_of
spelled_named found statement is = omega (arith, ap size_of is.subject, ap size_of is.predicate, ap size_of is.object)

pub spelled_total-more : (statements : List Statement) (statement : Statement) → spelled_total (statements ++ statement ∷ []) ≡ spelled_total statements + spelled_in statement
spelled_total-more [] statement = omega arith
spelled_total-more (first ∷ statements) statement = omega (arith, spelled_total-more statements statement)
