-- How a term is printed: an N-Triples term, where a blank node carries the time of its change.
use Rattle.std.specs.Prelude.{ℕ, Bool, List, [], ◌∷◌, ◌++◌, Option, Some, None, nat_eq, ◌==◌, if◌then◌else◌, codes}
use Rattle.std.specs.List.{flat_map}
use Rattle.std.specs.Cmp.Lexicographic.{pointwise}
use Rattle.std.specs.Fmt.{decimal}
use Rattle.term_core.specs.declared.term.Term.{Term}
use Rattle.term_core.specs.declared.term.Term.TheVariants.{Iri, Literal, Tagged, Blank}
use Rattle.term_core.specs.Term.{IsTerm}

-- the byte, escaped where a STRING_LITERAL_QUOTE may not hold it, and the tab: \" \\ \n \r \t
abbrev pub escaped_byte : ℕ → List ℕ
escaped_byte b =
    if b == 34 then codes "\\\"" else (if b == 92 then codes "\\\\" else (
    if b == 10 then codes "\\n" else (if b == 13 then codes "\\r" else (if b == 9 then codes "\\t" else b ∷ []))))

abbrev pub quoted : List ℕ → List ℕ
quoted form = 34 ∷ flat_map escaped_byte form ++ 34 ∷ []

abbrev pub bracketed : List ℕ → List ℕ
bracketed iri = 60 ∷ iri ++ 62 ∷ []

-- the datatype of a plain literal
unfoldable pub xsd_string : List ℕ
xsd_string = codes "http://www.w3.org/2001/XMLSchema#string"

unfoldable pub is_string : List ℕ → Bool
is_string datatype = pointwise nat_eq datatype (codes "http://www.w3.org/2001/XMLSchema#string")

abbrev pub datatype_mark : List ℕ → List ℕ
datatype_mark datatype = if is_string datatype then [] else codes "^^" ++ bracketed datatype

abbrev pub cell : Term → List ℕ
cell (Iri iri) = bracketed iri
cell (Literal form datatype) = quoted form ++ datatype_mark datatype
cell (Tagged form tag) = quoted form ++ 64 ∷ tag
cell (Blank at label) = codes "_:c" ++ decimal at ++ 46 ∷ label

-- nothing stands where a variable is unbound
abbrev pub cell_of : Option Term → List ℕ
cell_of None = []
cell_of (Some term) = cell term

-- a cell is empty, or that of a term whose parts keep their rules
abbrev pub IsCell : Option Term → Type 0
IsCell None = Unit {0}
IsCell (Some term) = IsTerm term
