-- Private: how the code tells a word from the prefix of a name without looking ahead again: the characters of a prefix end in a colon or they don't, for all that begin among them.
use Rattle.std.specs.Prelude.{◌≡◌, ℕ, ◌+◌, ◌<◌, Bool, true, false, not, ◌&&◌, List, [], ◌∷◌, ◌++◌, length, Option, Some, None, ◌==◌, if◌then◌else◌}
use Rattle.term_core.specs.Characters.{is_letter}
use Rattle.query_text.specs.Characters.{continues_name, continues_word}

-- whether a word or a prefixed name begins the text
abbrev pub begins_with_letter : List ℕ → Bool
begins_with_letter [] = false
begins_with_letter (c ∷ cs) = is_letter c

-- whether a character of a prefix is a dot
abbrev pub in_prefix : ℕ → Option Bool
in_prefix c = if c == 46 then Some true else (if continues_name c then Some false else None)

-- how much of the text is left behind the characters of a prefix, and none where a colon ends the prefix, with no dot before it
abbrev pub left_unnamed : Bool → List ℕ → Option ℕ
left_unnamed dot [] = Some 0
left_unnamed dot (c ∷ cs) =
    if c == 58 && not dot then None else (
    if c == 46 then left_unnamed true cs else (if continues_name c then left_unnamed false cs else Some (length (c ∷ cs))))

-- wherever a letter stands before the last so many characters of the text, no colon ends the prefix that it may begin, and these are what is left behind it
pub record IsQuiet (left : ℕ) (text : List ℕ) : Type 0 where
  pub alone : (front behind : List ℕ) → text ≡ front ++ behind → left < length behind → begins_with_letter behind ≡ true
      → left_unnamed false behind ≡ Some left

-- how many characters of a word stand at the front
abbrev pub word_length : List ℕ → ℕ
word_length [] = 0
word_length (c ∷ cs) = if continues_word c then word_length cs + 1 else 0
