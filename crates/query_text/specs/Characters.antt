-- The classes of characters of a query's names (SPARQL 1.1 Query Language, section 19.8). No class has the colon here.
use Rattle.std.specs.Prelude.{ℕ, Bool, ◌||◌, ◌==◌}
use Rattle.term_core.specs.Characters.{is_within, is_digit, is_letter, is_base_character}

-- PN_CHARS_U
unfoldable pub begins_name : ℕ → Bool
begins_name c = is_base_character c || c == 95

-- VARNAME, behind its first character
unfoldable pub continues_variable : ℕ → Bool
continues_variable c = begins_name c || is_digit c || c == 0xB7 || is_within 0x300 0x36F c || is_within 0x203F 0x2040 c

-- PN_CHARS
unfoldable pub continues_name : ℕ → Bool
continues_name c = continues_variable c || c == 45

-- behind the first letter of a word: an ASCII letter, a digit or _
abbrev pub continues_word : ℕ → Bool
continues_word c = is_letter c || is_digit c || c == 95

-- LF and CR
abbrev pub is_line_end : ℕ → Bool
is_line_end c = c == 10 || c == 13

-- WS: space, tab, LF and CR
abbrev pub is_white : ℕ → Bool
is_white c = c == 32 || c == 9 || is_line_end c
