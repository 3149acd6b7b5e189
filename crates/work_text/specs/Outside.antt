-- What the outside does: counts of faults, documents on a shelf, bytes that a sink takes.
use Rattle.std.specs.Prelude.{◌≡◌, ℕ, ◌-◌, ◌<◌, ◌≤◌, ◌^◌, Bool, true, false, List, [], ◌∷◌, ◌++◌, length, Option, Some, None, Result, OnErr, ◌⊎◌, nat_eq, nat_lt, if◌then◌else◌}
use Rattle.std.specs.Cmp.Lexicographic.{pointwise}
use Rattle.work_text.specs.declared.docs.Doc.{Doc}
use Rattle.work_text.specs.declared.docs.Doc.TheVariants.{Bytes, Missing, TooLarge}

-- the bytes of the first document of that name
abbrev pub document_named : List (List ℕ × List ℕ) → List ℕ → Option (List ℕ)
document_named [] name = None
document_named (document ∷ documents) name = if pointwise nat_eq document.0 name then Some document.1 else document_named documents name

abbrev pub IsFound : Option (List ℕ) → Bool → Option (List ℕ) → Type 0
IsFound None found left = found ≡ false
IsFound (Some bytes) found left = (found ≡ true) × (left ≡ Some bytes)

-- a fetch says whether there is a document of that name, and reading then begins at its front
abbrev pub IsFetched : Option (List (List ℕ × List ℕ)) → List ℕ → Bool → Option (List ℕ) → Type 0
IsFetched None name found left = Unit {0}
IsFetched (Some documents) name found left = IsFound (document_named documents name) found left

-- a read gave these bytes of what was left, and none only at the end
abbrev pub IsRead : Option (List ℕ) → Option (List ℕ) → List ℕ → Type 0
IsRead None new bytes = Unit {0}
IsRead (Some old) None bytes = ⊥
IsRead (Some old) (Some new) bytes = (old ≡ bytes ++ new) × (bytes ≡ [] → old ≡ [])

-- a sink took these bytes behind what it had
abbrev pub IsTaken : Option (List ℕ) → Option (List ℕ) → List ℕ → Type 0
IsTaken None new bytes = Unit {0}
IsTaken (Some old) None bytes = ⊥
IsTaken (Some old) (Some new) bytes = new ≡ old ++ bytes

-- what is read under a name, up to a limit
abbrev pub read_up_to : ℕ → Option (List ℕ) → Doc
read_up_to limit None = Missing
read_up_to limit (Some bytes) = if nat_lt limit (length bytes) then TooLarge else Bytes bytes

abbrev pub IsWithin : ℕ → Doc → Type 0
IsWithin limit (Bytes bytes) = length bytes ≤ limit
IsWithin limit Missing = Unit {0}
IsWithin limit TooLarge = Unit {0}

-- What a shelf that tells its documents has under a name. One that doesn't tell may have anything there.
abbrev pub IsDocOf : Option (List (List ℕ × List ℕ)) → ℕ → List ℕ → Doc → Type 0
IsDocOf None limit name doc = IsWithin limit doc
IsDocOf (Some documents) limit name doc = doc ≡ read_up_to limit (document_named documents name)
