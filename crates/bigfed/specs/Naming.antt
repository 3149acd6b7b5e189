-- Private: ids whose terms stand once each: the place of an id among the distinct ones, and the seat of its term.
use Rattle.std.specs.Prelude.{◌≡◌, ℕ, ◌++◌, ◌<◌, List, length, Option, Some, None}
use Rattle.std.specs.List.{slice_get, AllZip}
use Rattle.bgp_model.specs.Table.{cell_at as term_in}
use Rattle.change_model.specs.History.{History}
use Rattle.bigfed.specs.declared.naming.Named.{Named}
use Rattle.bigfed.specs.Solving.{term_at}

-- the id stands at the place among the distinct ones, and an unbound cell has none
abbrev pub IsPlaceIn : List ℕ → Option ℕ → Option ℕ → Type 0
IsPlaceIn distinct None place = place ≡ None
IsPlaceIn distinct (Some id) None = ⊥
IsPlaceIn distinct (Some id) (Some place) = slice_get distinct place ≡ Some id

-- some ids more, behind these
abbrev pub IsGrownFrom : List ℕ → List ℕ → Type 0
IsGrownFrom ids grown = (more : List ℕ) × (grown ≡ ids ++ more)

-- where there is a seat it is one of so many
abbrev pub IsBelow : ℕ → Option ℕ → Type 0
IsBelow count None = Unit {0}
IsBelow count (Some seat) = seat < count

-- the id's term sits there, and there is no seat where it has none
abbrev pub IsSeatOf : History → Named → ℕ → Option ℕ → Type 0
IsSeatOf history named id seat = IsBelow (length named.terms.items) seat × (term_in named.terms.items seat ≡ term_at history id)

-- the terms of the ids, and their seats in order
abbrev pub AreSeatsOf : History → List ℕ → Named → Type 0
AreSeatsOf history ids named = AllZip (IsSeatOf history named) ids named.seats.items

abbrev pub seat_or_none : Option (Option ℕ) → Option ℕ
seat_or_none None = None
seat_or_none (Some seat) = seat

-- the seat of the id at a place
abbrev pub seat_at : List (Option ℕ) → Option ℕ → Option ℕ
seat_at seats None = None
seat_at seats (Some place) = seat_or_none (slice_get seats place)
