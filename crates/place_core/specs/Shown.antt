-- What notes show of the shards' numbers.
use Rattle.std.specs.Prelude.{ℕ}
use Rattle.base_core.specs.Lists.{Has}
use Rattle.fed_bytes.specs.declared.span.Span.{Span}
use Rattle.place_board.specs.declared.view.Known.{Known}
use Rattle.place_board.specs.Tokens.{Noted}
use Rattle.row_core.specs.declared.rows.Index.{Index}
use Rattle.row_core.specs.declared.rows.Index.TheVariants.{T2i, I2t, Spo, Pos, Osp}
use Rattle.place_core.specs.declared.shards.Born.{Born}
use Rattle.place_core.specs.declared.shards.Locator.{Locator}

-- the place of an index among all, from 0
abbrev pub place_of : Index → ℕ
place_of T2i = 0
place_of I2t = 1
place_of Spo = 2
place_of Pos = 3
place_of Osp = 4

-- a number that was born by this service, for this span of this index
abbrev pub known_as : ℕ → ℕ → Index → Span → Known
known_as number service index span = record { number = number; service = service; index = place_of index; span = span }

-- the note knows the number with this service, index and span
abbrev pub IsShownBy : Noted → ℕ → ℕ → Index → Span → Type 0
IsShownBy note number service index span = Has note.knows (known_as number service index span)

-- the note of a born shard knows its number so, and may have it listed
abbrev pub IsFresh : Born → Type 0
IsFresh born = IsShownBy born.note born.number born.service born.index born.span × Has born.note.fresh born.number

-- the note of a locator knows its number so
abbrev pub IsShown : Locator → Type 0
IsShown locator = IsShownBy locator.note locator.number locator.service locator.index locator.span
