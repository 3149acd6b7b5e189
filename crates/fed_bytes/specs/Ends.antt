-- Private: what the functions on the ends of spans compute.
use Rattle.std.specs.Prelude.{◌≢◌, ◌+◌, ℕ, List, [], ◌∷◌, ◌++◌, Option, Some, None, if◌then◌else◌, ◌==◌}
use Rattle.std.specs.Ordering.{is_le, nat_cmp}
use Rattle.std.specs.Cmp.Lexicographic.{slice_cmp}

abbrev pub later : List ℕ → List ℕ → List ℕ
later one other = if is_le (slice_cmp nat_cmp one other) then other else one

abbrev pub earlier_end : Option (List ℕ) → Option (List ℕ) → Option (List ℕ)
earlier_end None other = other
earlier_end (Some first) None = Some first
earlier_end (Some first) (Some second) = if is_le (slice_cmp nat_cmp first second) then Some first else Some second

-- the byte before an end, or the byte one higher where nothing after it has an end
abbrev pub onto_end : ℕ → Option (List ℕ) → Option (List ℕ)
onto_end byte None = if byte == 255 then None else Some ((byte + 1) ∷ [])
onto_end byte (Some end) = Some (byte ∷ end)

-- the end of the keys that begin with these bytes
abbrev pub end_of : List ℕ → Option (List ℕ)
end_of [] = None
end_of (byte ∷ bytes) = onto_end byte (end_of bytes)

-- there is no last byte, or it is not ff
abbrev pub EndsWithoutFf : List ℕ → Type 0
EndsWithoutFf bytes = (front : List ℕ) → bytes ≢ front ++ 255 ∷ []
