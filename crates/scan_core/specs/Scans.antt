-- A scan: one span of keys that is read in parts, and what becomes of it at each answer.
use Rattle.std.specs.Prelude.{◌≡◌, ◌↔◌, ◌⊎◌, ℕ, ◌+◌, ◌<◌, List, [], ◌∷◌, ◌++◌, length, Bool, true, false, Option, Some, None, IfSome}
use Rattle.std.specs.List.{AllByRecursion}
use Rattle.base_core.specs.Lists.{Has, AreDistinct}
use Rattle.fed_bytes.specs.declared.span.Span.{Span}
use Rattle.fed_bytes.specs.Keys.{IsBefore, IsBeforeEnd, IsIn}
use Rattle.row_core.specs.declared.rows.Index.{Index}
use Rattle.row_core.specs.declared.rows.Row.{Row}
use Rattle.row_core.specs.declared.rows.Reply.{Reply}

-- what is read of which index and at which time; what is left of it; whether nothing is; the number that was asked last, until
-- its answer ends; the numbers that were asked and then found retired; up to where the shard that was asked is behind; and the
-- rows of all replies so far
pub record Scanning : Type 0 where
  pub index : Index
  pub time : ℕ
  pub whole : Span
  pub rest : Span
  pub done : Bool
  pub asked : Option ℕ
  pub retired : List ℕ
  pub behind : Option ℕ
  pub rows : List Row

-- what is so of every scan
pub record IsScan (s : Scanning) : Type 0 where
  -- the numbers that were found retired are different, fewer than eight, and the one that was asked last is none of them
  pub distinct : AreDistinct s.retired
  pub few : length s.retired < 8
  pub other : (n : ℕ) → s.asked ≡ Some n → ¬ Has s.retired n
  -- what is left ends where all of it ends, and begins in it, until nothing is left
  pub end : s.rest.right ≡ s.whole.right
  pub at : s.done ≡ false → IsIn s.whole s.rest.left
  -- a shard is behind this scan only below its time
  pub late : (upto : ℕ) → s.behind ≡ Some upto → upto < s.time

-- the key was read: no key of what is left stands before it
abbrev pub IsRead : Scanning → List ℕ → Type 0
IsRead s key = (s.done ≡ true) ⊎ IsBefore key s.rest.left

-- a key of the part before the next one, if there is one
abbrev pub IsPassed : Reply → List ℕ → Type 0
IsPassed reply key = IsIn reply.part key × IsBeforeEnd key reply.chunk.next

-- A reply fits what is left: its part has the first key that is left, and only keys that are left; its rows have keys of the
-- part before the next one, which is in the part too.
pub record IsFitting (rest : Span) (reply : Reply) : Type 0 where
  pub begins : IsIn reply.part rest.left
  pub within : (key : List ℕ) → IsIn reply.part key → IsIn rest key
  pub rows : AllByRecursion (λ row. IsPassed reply row.key) reply.chunk.rows
  pub next : IfSome reply.chunk.next (IsIn reply.part)

-- the number that is asked for further: the same one where the reply named a next key, else none
abbrev pub asked_after : Option (List ℕ) → Option ℕ → Option ℕ
asked_after None asked = None
asked_after (Some next) asked = asked

-- The scan took the reply: its rows are behind the others, and of the span the keys that the reply passed were read too, and
-- no other.
pub record Takes (old : Scanning) (reply : Reply) (new : Scanning) : Type 0 where
  pub rows : new.rows ≡ old.rows ++ reply.chunk.rows
  pub reads : (key : List ℕ) → IsIn old.whole key → (IsRead new key ↔ (IsRead old key ⊎ IsPassed reply key))
  pub asked : new.asked ≡ asked_after reply.chunk.next old.asked
  pub rest : new ≡ record old { rest = new.rest; done = new.done; asked = new.asked; rows = new.rows }

-- eight different numbers, each of which was asked in one scan and then found retired
pub record AreAgain (retired : List ℕ) (number : ℕ) (numbers : List ℕ) : Type 0 where
  pub are : numbers ≡ retired ++ number ∷ []
  pub eight : length numbers ≡ 8
  pub distinct : AreDistinct numbers

-- the number that was asked last was found retired
abbrev pub lost : ℕ → Scanning → Scanning
lost number s = record s { asked = None; retired = s.retired ++ number ∷ [] }

-- a new scan of the span: nothing is left exactly where the span doesn't have its own left end
pub record IsStarted (index : Index) (span : Span) (time : ℕ) (s : Scanning) : Type 0 where
  pub is : s ≡ record { index = index; time = time; whole = span; rest = span; done = s.done; asked = None; retired = []; behind = None; rows = [] }
  pub left : (s.done ≡ false) ↔ IsIn span span.left
