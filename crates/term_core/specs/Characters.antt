-- The characters that the parts of a term are made of, by their code points.
use Rattle.std.specs.Prelude.{ℕ, Bool, ◌&&◌, ◌||◌, not, nat_le, ◌==◌, codes}
use Rattle.std.specs.List.{list_any}

-- the code point is in the range, both ends in
abbrev pub is_within : ℕ → ℕ → ℕ → Bool
is_within low high c = nat_le low c && nat_le c high

abbrev pub is_digit : ℕ → Bool
is_digit c = is_within 48 57 c

abbrev pub is_lower_letter : ℕ → Bool
is_lower_letter c = is_within 97 122 c

abbrev pub is_letter : ℕ → Bool
is_letter c = is_within 65 90 c || is_lower_letter c

-- N-Triples, IRIREF: any character but U+0000 to U+0020 and < > " { } | ^ ` \
unfoldable pub is_iri_character : ℕ → Bool
is_iri_character c = nat_le 33 c && not (list_any (λ excluded. excluded == c) (codes "<>\"{}|^`\\"))

-- N-Triples, PN_CHARS_BASE
unfoldable pub is_base_character : ℕ → Bool
is_base_character c =
    is_letter c || is_within 0xC0 0xD6 c || is_within 0xD8 0xF6 c || is_within 0xF8 0x2FF c
    || is_within 0x370 0x37D c || is_within 0x37F 0x1FFF c || is_within 0x200C 0x200D c
    || is_within 0x2070 0x218F c || is_within 0x2C00 0x2FEF c || is_within 0x3001 0xD7FF c
    || is_within 0xF900 0xFDCF c || is_within 0xFDF0 0xFFFD c || is_within 0x10000 0xEFFFF c

-- N-Triples, PN_CHARS_U, which there has the colon too
unfoldable pub is_start_character : ℕ → Bool
is_start_character c = is_base_character c || c == 95 || c == 58

-- N-Triples, PN_CHARS
unfoldable pub is_name_character : ℕ → Bool
is_name_character c =
    is_start_character c || c == 45 || is_digit c || c == 0xB7 || is_within 0x300 0x36F c || is_within 0x203F 0x2040 c
