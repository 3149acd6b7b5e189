-- Private: what the private functions that read a spelling find.
use Rattle.std.specs.Prelude.{◌≡◌, ℕ, Bool, not, ◌&&◌, ◌==◌, List, length, Result, Ok, Err}
use Rattle.std.specs.List.{list_all}
use Rattle.term_core.specs.declared.decode.Parts.{Parts}
use Rattle.term_core.specs.declared.decode.Parts.TheVariants as parts
use Rattle.term_core.specs.declared.fault.TermFault.{TermFault}
use Rattle.term_core.specs.declared.fault.TermFault.TheVariants.{NoMemory, BadTerm}
use Rattle.term_core.specs.declared.term.Term.{Term}
use Rattle.term_core.specs.declared.term.Term.TheVariants.{Iri, Literal, Tagged, Blank}
use Rattle.term_core.specs.Spelling.{spelling, IsFirstBadField}
use Rattle.term_core.specs.Term.{IsTerm}

-- one or more characters of a class
abbrev pub is_group : (ℕ → Bool) → List ℕ → Bool
is_group class group = not (length group == 0) && list_all class group

-- the bytes are bad, and here
abbrev pub IsBadTermAt : List ℕ → TermFault → Type 0
IsBadTermAt bytes NoMemory = ⊥
IsBadTermAt bytes (BadTerm at) = IsFirstBadField bytes at

abbrev pub term_of : Parts → Term
term_of (parts.Iri iri) = Iri iri.now
term_of (parts.Literal form datatype) = Literal form.now datatype.now
term_of (parts.Tagged form tag) = Tagged form.now tag.now
term_of (parts.Blank at label) = Blank at label.now

-- the parts are those of a term with this spelling, or the bytes are bad
abbrev pub IsRead : List ℕ → Result Parts TermFault → Type 0
IsRead bytes (Ok found) = IsTerm (term_of found) × (bytes ≡ spelling (term_of found))
IsRead bytes (Err fault) = IsBadTermAt bytes fault
