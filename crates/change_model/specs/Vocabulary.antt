-- Private: where a term stands while a vocabulary is made.
use Rattle.std.specs.Prelude.{◌≡◌, ℕ, List, Some}
use Rattle.std.specs.List.{slice_get}
use Rattle.term_core.specs.declared.term.Term.{Term}

-- the term stands at the place
abbrev pub StandsAt : List Term → Term → ℕ → Type 0
StandsAt terms term place = slice_get terms place ≡ Some term
