-- Private: the documents of a shelf in memory, by their numbers.
use Rattle.std.specs.Prelude.{ℕ, List, [], drop, unwrap_or}
use Rattle.std.specs.List.{slice_get}
use Rattle.std.specs.Option.{option_map}

-- the bytes of the document of this number, from 0; none where there is no such document
abbrev pub bytes_at : List (List ℕ × List ℕ) → ℕ → List ℕ
bytes_at documents number = unwrap_or (option_map (λ (document : List ℕ × List ℕ). document.1) (slice_get documents number)) []

-- what is left of it behind so many bytes
abbrev pub left_at : List (List ℕ × List ℕ) → ℕ → ℕ → List ℕ
left_at documents number at = drop at (bytes_at documents number)
