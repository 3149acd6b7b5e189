-- The lines of a text, without their ends. The last line may have no end.
use Rattle.std.specs.Prelude.{ℕ, Bool, false, ◌&&◌, ◌||◌, not, List, [], ◌∷◌, ◌==◌, if◌then◌else◌}
use Rattle.base_core.specs.declared.lines.LineEnd.{LineEnd}
use Rattle.base_core.specs.declared.lines.LineEnd.TheVariants.{Any, LineFeed}

abbrev pub begins_with_lf : List ℕ → Bool
begins_with_lf [] = false
begins_with_lf (b ∷ bytes) = b == 10

-- the byte, with these behind it, ends its line: LF does, and where any end counts, CR does unless the end goes on with LF
abbrev pub is_end : LineEnd → ℕ → List ℕ → Bool
is_end Any b bytes = b == 10 || (b == 13 && not (begins_with_lf bytes))
is_end LineFeed b bytes = b == 10

-- the byte is the CR of CR LF, which is no part of the line
abbrev pub is_dropped : ℕ → List ℕ → Bool
is_dropped b bytes = b == 13 && begins_with_lf bytes

-- the byte at the front of the first line
abbrev pub onto_first : ℕ → List (List ℕ) → List (List ℕ)
onto_first b [] = (b ∷ []) ∷ []
onto_first b (line ∷ lines) = (b ∷ line) ∷ lines

abbrev pub lines_of : LineEnd → List ℕ → List (List ℕ)
lines_of end [] = []
lines_of end (b ∷ bytes) =
    if is_end end b bytes then [] ∷ lines_of end bytes
    else (if is_dropped b bytes then lines_of end bytes else onto_first b (lines_of end bytes))
