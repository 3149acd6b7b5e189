-- Private: the lines of a place as its functions see them.
use Rattle.std.specs.Prelude.{◌≡◌, ◌↔◌, ◌<◌, ◌⊎◌, ◌==◌, ℕ, Bool, List, map, if◌then◌else◌, nat_lt, length, slice_index_or}
use Rattle.std.specs.Ordering.{is_le, nat_cmp}
use Rattle.std.specs.Cmp.Lexicographic.{slice_cmp}
use Rattle.base_core.specs.Lists.{Has}
use Rattle.place_board.specs.Tokens.{Listing}
use Rattle.row_core.specs.declared.rows.Index.{Index}
use Rattle.place_core.specs.declared.shards.Line.{Line}
use Rattle.place_core.specs.declared.shards.Born.{Born}
use Rattle.place_core.specs.Shown.{place_of}
use Rattle.place_core.specs.Places.{HasKey, HaveLeftEnds, CoverEveryKeyOnce, LinesStandInOrder, AreCutFrom, AreFresh, line_of}

-- the line stands no later than one with this left end would
abbrev pub up_to : ℕ → List ℕ → Line → Bool
up_to place key line = if place_of line.index == place then is_le (slice_cmp nat_cmp line.span.left key) else nat_lt (place_of line.index) place

-- lines among which each key can be found
pub record AreLines (lines : List Line) : Type 0 where
  pub cover : CoverEveryKeyOnce lines
  pub left : HaveLeftEnds lines
  pub order : LinesStandInOrder lines

-- the line at this place has the key
pub record IsHeldAt (lines : List Line) (index : Index) (key : List ℕ) (at : ℕ) : Type 0 where
  pub below : at < length lines
  pub line : (d : Line) → HasKey (slice_index_or lines at d) index key

-- the line at this place has the number
pub record IsNumberAt (lines : List Line) (number : ℕ) (at : ℕ) : Type 0 where
  pub below : at < length lines
  pub line : (d : Line) → (slice_index_or lines at d).number ≡ number

-- no line of this number has just the keys of the born shards
abbrev pub IsElsewhere : List Line → ℕ → List Born → Type 0
IsElsewhere lines old born = (line : Line) → Has lines line → line.number ≡ old → ¬ AreCutFrom (place_of line.index) line.span (map line_of born)

-- two lines begin at one key of one index
abbrev pub ShareLeft : Line → Line → Type 0
ShareLeft one other = (place_of one.index ≡ place_of other.index) × (one.span.left ≡ other.span.left)

-- these can be listed, and put among the lines
pub record MayBeListed (list : Listing) (lines : List Line) (born : List Born) : Type 0 where
  pub order : LinesStandInOrder lines
  pub fresh : AreFresh list.noted born
  pub listed : (line : Line) → Has lines line → Has list.ever line.number
  pub lefts : (line other : Line) → Has lines line ⊎ Has (map line_of born) line → Has (map line_of born) other → ShareLeft line other → line ≡ other
