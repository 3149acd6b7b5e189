-- A place: which shards are listed, and that of each index each key is in one of them.
use Rattle.std.specs.Prelude.{◌≡◌, ◌↔◌, ◌+◌, ◌<◌, ◌⊎◌, ◌==◌, ℕ, List, [], ◌∷◌, map, length, slice_index, count_by}
use Rattle.base_core.specs.Lists.{Has}
use Rattle.fed_bytes.specs.declared.span.Span.{Span}
use Rattle.fed_bytes.specs.Keys.{IsBefore, IsIn}
use Rattle.place_board.specs.declared.view.Known.{Known}
use Rattle.place_board.specs.Tokens.{Noted, Listing, IsSoundList, list_met, list_listed}
use Rattle.row_core.specs.declared.rows.Index.{Index}
use Rattle.place_core.specs.declared.shards.Line.{Line}
use Rattle.place_core.specs.declared.shards.Born.{Born}
use Rattle.place_core.specs.declared.shards.Locator.{Locator}
use Rattle.place_core.specs.declared.fault.PlaceRefusal.{PlaceRefusal}
use Rattle.place_core.specs.declared.fault.PlaceRefusal.TheVariants.{NoMemory, Moved}
use Rattle.place_core.specs.Shown.{place_of, IsShownBy, IsShown, IsFresh}

-- a place: its list seat, and the listed shards
pub record Placing : Type 0 where
  pub list : Listing
  pub lines : List Line

-- a born shard, and a located one, without the note
abbrev pub line_of : Born → Line
line_of born = record { number = born.number; service = born.service; index = born.index; span = born.span }

abbrev pub located : Locator → Line
located l = record { number = l.number; service = l.service; index = l.index; span = l.span }

-- the shard has this key of the index
abbrev pub HasKey : Line → Index → List ℕ → Type 0
HasKey line index key = (line.index ≡ index) × IsIn line.span key

-- of each index each key is in one of the spans, and in no two
pub record CoverEveryKeyOnce (lines : List Line) : Type 0 where
  pub some : (index : Index) (key : List ℕ) → (line : Line) × Has lines line × HasKey line index key
  pub one : (index : Index) (key : List ℕ) (line other : Line) → Has lines line → Has lines other → HasKey line index key → HasKey other index key → line ≡ other

-- no span is empty: each has its left end
abbrev pub HaveLeftEnds : List Line → Type 0
HaveLeftEnds lines = (line : Line) → Has lines line → IsIn line.span line.span.left

-- shards of one index, whose place this is, that make up a whole span: each of its keys is in one of them and in no two, and they have no other key. None is empty
pub record AreCutFrom (place : ℕ) (whole : Span) (lines : List Line) : Type 0 where
  pub index : (line : Line) → Has lines line → place_of line.index ≡ place
  pub some : (key : List ℕ) → IsIn whole key → (line : Line) × Has lines line × IsIn line.span key
  pub within : (line : Line) (key : List ℕ) → Has lines line → IsIn line.span key → IsIn whole key
  pub one : (key : List ℕ) (line other : Line) → Has lines line → Has lines other → IsIn line.span key → IsIn other.span key → line ≡ other
  pub left : HaveLeftEnds lines

-- born shards that make up the span that is known of this number
abbrev pub AreCutOf : List Known → ℕ → List Born → Type 0
AreCutOf knows old born = (known : Known) → Has knows known → known.number ≡ old → AreCutFrom known.index known.span (map line_of born)

-- the notes of born shards are of the board of this one, and each may have its number listed
abbrev pub AreFresh : Noted → List Born → Type 0
AreFresh noted born = (one : Born) → Has born one → IsFresh one × (one.note.board ≡ noted.board)

-- a line comes before another: its index does, or its left end in the same index
abbrev pub LineComesBefore : Line → Line → Type 0
LineComesBefore one other = (place_of one.index < place_of other.index) ⊎ ((place_of one.index ≡ place_of other.index) × IsBefore one.span.left other.span.left)

-- each element stands so to all that stand behind it
abbrev pub StandBy : {A : Type 0} → (A → A → Type 0) → List A → Type 0
StandBy R [] = Unit {0}
StandBy {A} R (x ∷ xs) = ((y : A) → Has xs y → R x y) × StandBy R xs

-- each line comes before all that stand behind it
abbrev pub LinesStandInOrder : List Line → Type 0
LinesStandInOrder lines = StandBy LineComesBefore lines

-- what is so of every place
pub record IsPlace (p : Placing) : Type 0 where
  pub sound : IsSoundList p.list
  pub cover : CoverEveryKeyOnce p.lines
  pub left : HaveLeftEnds p.lines
  pub order : LinesStandInOrder p.lines
  -- the lines are the listed numbers, each with what the seat knows of it
  pub listed : (line : Line) → Has p.lines line → Has p.list.listed line.number
  pub shown : (line : Line) → Has p.lines line → IsShownBy p.list.noted line.number line.service line.index line.span
  pub found : (n : ℕ) → Has p.list.listed n → (line : Line) × Has p.lines line × (line.number ≡ n)

-- the list once these are listed, one after the other
abbrev pub all_listed : List Born → Listing → Listing
all_listed [] list = list
all_listed (one ∷ born) list = all_listed born (list_listed one.number (list_met list one.note))

-- none of these was ever listed
abbrev pub WereNeverListed : List Born → Listing → Type 0
WereNeverListed born list = (one : Born) → Has born one → ¬ Has list.ever one.number

-- the lines of the born shards are added
abbrev pub AreAdded : List Born → List Line → List Line → Type 0
AreAdded born before after = (line : Line) → (Has after line ↔ (Has before line ⊎ Has (map line_of born) line))

-- the lines afterwards are those before but for the one of this number, and those of the born shards
abbrev pub AreReplaced : ℕ → List Born → List Line → List Line → Type 0
AreReplaced old born before after = (line : Line) → (Has after line ↔ ((Has before line × ¬ (line.number ≡ old)) ⊎ Has (map line_of born) line))

-- the locator is of the one listed shard that has the key, and its note is one of what the place's list knows
pub record IsLocated (p : Placing) (index : Index) (key : List ℕ) (l : Locator) : Type 0 where
  pub has : HasKey (located l) index key
  pub line : Has p.lines (located l)
  pub listed : Has p.list.listed l.number
  pub shown : IsShown l

-- how many of the lines are of this service
abbrev pub lines_of_service : ℕ → List Line → ℕ
lines_of_service service lines = count_by (λ line. line.service == service) lines

-- how many of the lines are of each service, from service 1 on
pub record AreCounts (services : ℕ) (lines : List Line) (counts : List ℕ) : Type 0 where
  pub long : length counts ≡ services
  pub each : (before : ℕ) → before < services → slice_index counts before ≡ lines_of_service (before + 1) lines

-- why a place was not changed: Moved comes with the old number, which is not listed any more
abbrev pub IsRefusal : Placing → ℕ → PlaceRefusal → Type 0
IsRefusal p old NoMemory = Unit {0}
IsRefusal p old (Moved number) = (number ≡ old) × ¬ Has p.list.listed old
