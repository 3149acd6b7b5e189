-- Private: what the functions that write a body need.
use Rattle.std.specs.Prelude.{◌<◌, ◌^◌, ◌++◌, ℕ, List, length}
use Rattle.base_core.specs.Numbers.{length_bytes}

-- the length of a spelling, and the spelling
abbrev pub counted : List ℕ → List ℕ
counted spelling = length_bytes (length spelling) ++ spelling

-- the length of a spelling fits four bytes
abbrev pub IsShort : List ℕ → Type 0
IsShort spelling = length spelling < 2 ^ 32
