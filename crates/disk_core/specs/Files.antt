-- A file of a device: what reads give of it, and what a crash now may leave of it.
--
-- Between two syncs of a file any byte may stand where one was written, the length may be any that the file had, and all other bytes are those
-- that the last sync stored. A sync that succeeds leaves what reads give, and nothing else.
use Rattle.std.specs.Prelude.{◌≡◌, ℕ, ◌+◌, ◌-◌, ◌<◌, ◌≤◌, List, [], ◌∷◌, ◌++◌, length, take, drop, slice_index, replicate, min, max, ◌⊎◌}

-- the places from `start` on, and before `end`
pub record Range : Type 0 where
  pub start : ℕ
  pub end : ℕ

pub record FileState : Type 0 where
  -- what reads give
  pub content : List ℕ
  -- what reads gave at the last sync
  pub stored : List ℕ
  -- where writes began since then
  pub touched : List Range
  -- the least and the greatest length since then
  pub shortest : ℕ
  pub longest : ℕ

-- a write since the last sync may have changed the byte at this place
abbrev pub IsTouched : List Range → ℕ → Type 0
IsTouched [] place = ⊥
IsTouched (range ∷ ranges) place = ((range.start ≤ place) × (place < range.end)) ⊎ IsTouched ranges place

-- a crash now may leave these bytes of the file
pub record IsImage (file : FileState) (image : List ℕ) : Type 0 where
  pub not_shorter : file.shortest ≤ length image
  pub not_longer : length image ≤ file.longest
  pub others : (place : ℕ) → place < length image → (IsTouched file.touched place → ⊥) → slice_index image place ≡ slice_index file.stored place

-- what reads give and what the last sync stored are images
pub record IsSound (file : FileState) : Type 0 where
  pub content : IsImage file file.content
  pub stored : IsImage file file.stored

-- nothing of the file is pending: a crash leaves what reads give
abbrev pub IsStored : FileState → List ℕ → Type 0
IsStored file bytes = file ≡ record { content = bytes; stored = bytes; touched = []; shortest = length bytes; longest = length bytes }

-- ---- what calls do to a file

-- a file with the bytes put in from a place on; a gap before them is filled with zeros
abbrev pub with_bytes : List ℕ → ℕ → List ℕ → List ℕ
with_bytes old at [] = old
with_bytes old at (b ∷ bytes) = ((take at old ++ replicate (at - length old) 0) ++ (b ∷ bytes)) ++ drop (at + length (b ∷ bytes)) old

-- a write has begun of so many bytes; it spreads over the gap before it, too
abbrev pub touching : FileState → ℕ → ℕ → FileState
touching file at count = record file {
  touched = record { start = min at (length file.content); end = at + count } ∷ file.touched;
  longest = max file.longest (at + count);
}

abbrev pub written : FileState → ℕ → List ℕ → FileState
written file at bytes = record (touching file at (length bytes)) { content = with_bytes file.content at bytes }

-- What a write of so many bytes that failed has left: outside of its range nothing but zeros in a gap is new. Past its
-- end a list reads as zeros.
pub record IsTorn (old new : List ℕ) (at count : ℕ) : Type 0 where
  pub not_shorter : length old ≤ length new
  pub not_longer : (length new ≤ length old) ⊎ (length new ≤ at + count)
  pub outside : (k : ℕ) → (k < at) ⊎ (at + count ≤ k) → slice_index new k ≡ slice_index old k

abbrev pub IsTornFile : ℕ → ℕ → FileState → FileState → Type 0
IsTornFile at count old new = (content : List ℕ) × IsTorn old.content content at count × (new ≡ record (touching old at count) { content = content })

-- a removal has begun
abbrev pub removing : FileState → List ℕ → FileState
removing file content = record file { content = content; shortest = 0 }

abbrev pub removed : FileState → FileState
removed file = removing file []

-- after a removal that failed the file is as it was, or its length is 0
abbrev pub IsPerhapsRemoved : FileState → FileState → Type 0
IsPerhapsRemoved old new = (new ≡ removing old old.content) ⊎ (new ≡ removed old)

abbrev pub synced : FileState → FileState
synced file = record { content = file.content; stored = file.content; touched = []; shortest = length file.content; longest = length file.content }
