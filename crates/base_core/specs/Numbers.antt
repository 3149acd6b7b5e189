-- Numbers spelled as bytes, the highest first.
use Rattle.std.specs.Prelude.{ℕ, List}
use Rattle.std.specs.Int.{w32, w64, to_be_bytes}

-- the eight bytes of a number below 2 ^ 64
abbrev pub number_bytes : ℕ → List ℕ
number_bytes n = to_be_bytes w64 n

-- the four bytes of a number below 2 ^ 32, as lengths and counts are spelled
abbrev pub length_bytes : ℕ → List ℕ
length_bytes n = to_be_bytes w32 n
