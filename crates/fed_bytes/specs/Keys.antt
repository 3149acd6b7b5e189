-- Keys are lists of bytes, in the order of their bytes. A span is half open.
use Rattle.std.specs.Prelude.{◌≡◌, ◌<◌, ◌↔◌, ℕ, List, ◌++◌, Option, Some, None, IsTrue}
use Rattle.std.specs.List.{AllByRecursion}
use Rattle.std.specs.Ordering.{is_lt, is_le, nat_cmp}
use Rattle.std.specs.Cmp.Lexicographic.{slice_cmp}
use Rattle.fed_bytes.specs.declared.span.Span.{Span}

-- the first key stands before the second
abbrev pub IsBefore : List ℕ → List ℕ → Type 0
IsBefore first second = IsTrue (is_lt (slice_cmp nat_cmp first second))

-- the first key stands before the second, or is the second
abbrev pub IsUpTo : List ℕ → List ℕ → Type 0
IsUpTo first second = IsTrue (is_le (slice_cmp nat_cmp first second))

-- the key stands before the right end, if there is one
abbrev pub IsBeforeEnd : List ℕ → Option (List ℕ) → Type 0
IsBeforeEnd key None = Unit {0}
IsBeforeEnd key (Some right) = IsBefore key right

-- the left end is in the span, and the right end is not
abbrev pub IsIn : Span → List ℕ → Type 0
IsIn span key = IsUpTo span.left key × IsBeforeEnd key span.right

abbrev pub AreBytes : List ℕ → Type 0
AreBytes bytes = AllByRecursion (λ byte. byte < 256) bytes

abbrev pub BeginsWith : List ℕ → List ℕ → Type 0
BeginsWith prefix key = (rest : List ℕ) × (key ≡ prefix ++ rest)

-- no key is in both
abbrev pub AreApart : Span → Span → Type 0
AreApart one other = (key : List ℕ) → ¬ (IsIn one key × IsIn other key)

-- the keys of the third span are those that are in both
abbrev pub IsMeeting : Span → Span → Span → Type 0
IsMeeting one other both = (key : List ℕ) → (IsIn both key ↔ (IsIn one key × IsIn other key))

-- the keys of the span are those that begin with the prefix
abbrev pub IsPrefixSpan : List ℕ → Span → Type 0
IsPrefixSpan prefix span = (key : List ℕ) → AreBytes key → (IsIn span key ↔ BeginsWith prefix key)

-- the only key of the span is this one
abbrev pub IsKeySpan : List ℕ → Span → Type 0
IsKeySpan key span = (other : List ℕ) → (IsIn span other ↔ (other ≡ key))
