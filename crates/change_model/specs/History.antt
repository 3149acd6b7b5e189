-- The history of a store and the graph after each of its changes.
use Rattle.std.specs.Prelude.{ℕ, zero, suc, List, map, Option, Some, None, ◌⊎◌}
use Rattle.std.specs.List.{slice_get}
use Rattle.term_core.specs.declared.term.Term.{Term}
use Rattle.term_core.specs.declared.term.Term.TheVariants.{Iri, Literal, Tagged, Blank}
use Rattle.term_core.specs.declared.statement.Statement.{Statement}
use Rattle.base_core.specs.Lists.{Has}
use Rattle.change_model.specs.declared.history.Kind.{Kind}
use Rattle.change_model.specs.declared.history.Kind.TheVariants.{Add, Remove}
use Rattle.change_model.specs.declared.history.Committed.{Committed}

-- a label of a change stands for a node of that change's time
abbrev pub bound_term : ℕ → Term → Term
bound_term time (Iri iri) = Iri iri
bound_term time (Literal form datatype) = Literal form datatype
bound_term time (Tagged form tag) = Tagged form tag
bound_term time (Blank at label) = Blank time label

abbrev pub bound_at : ℕ → Statement → Statement
bound_at time statement = record {
  subject = bound_term time statement.subject;
  predicate = bound_term time statement.predicate;
  object = bound_term time statement.object;
}

-- the committed changes, each with its origin; the k-th, from 1, was committed at the time k
abbrev pub History : Type 0
History = List Committed

-- the statements of an Add are put in, those of a Remove are taken out
abbrev pub applied : Kind → List Statement → (Statement → Type 0) → Statement → Type 0
applied Add statements graph statement = graph statement ⊎ Has statements statement
applied Remove statements graph statement = graph statement × (Has statements statement → ⊥)

abbrev pub after : Option Committed → ℕ → (Statement → Type 0) → Statement → Type 0
after None time graph statement = graph statement
after (Some committed) time graph statement =
    applied committed.change.kind (map (bound_at time) committed.change.statements) graph statement

-- the triples left by the first so many changes
abbrev pub graph_at : History → ℕ → Statement → Type 0
graph_at history zero statement = ⊥
graph_at history (suc k) statement = after (slice_get history k) (suc k) (graph_at history k) statement
