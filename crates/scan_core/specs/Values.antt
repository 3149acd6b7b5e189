-- What a scan has read of a history: the last values of the keys that it went over.
use Rattle.std.specs.Prelude.{◌≡◌, ◌↔◌, ℕ, Option, Some, true, false}
use Rattle.base_core.specs.Lists.{Has}
use Rattle.fed_bytes.specs.declared.span.Span.{Span}
use Rattle.fed_bytes.specs.Keys.{IsIn}
use Rattle.row_core.specs.declared.rows.Index.{Index}
use Rattle.row_core.specs.declared.rows.Row.{Row}
use Rattle.row_core.specs.declared.rows.Reply.{Reply}
use Rattle.change_model.specs.History.{History}
use Rattle.change_model.specs.IndexRows.{IsLastRow}
use Rattle.change_model.specs.Laws.{IsValue}
use Rattle.scan_core.specs.Scans.{Scanning, IsScan, IsStarted, IsRead, IsPassed, IsFitting, Takes}

-- by the history the row is the last of its key at or before the time, and it is a value
abbrev pub IsValueRow : Index → History → ℕ → Row → Type 0
IsValueRow index history time row = IsLastRow index history row.key time (Some row) × IsValue (Some row)

-- of the keys that were read of the span, the scan has exactly the last values
abbrev pub AreScanned : History → Scanning → Type 0
AreScanned history s = (row : Row) → (Has s.rows row ↔ (IsValueRow s.index history s.time row × (IsIn s.whole row.key × IsRead s row.key)))

-- of the keys that the reply passes, it has exactly the last values
abbrev pub TellsValues : Index → History → ℕ → Reply → Type 0
TellsValues index history time reply = (row : Row) → (Has reply.chunk.rows row ↔ (IsValueRow index history time row × IsPassed reply row.key))

-- the scan has exactly the last values of all keys of its span
abbrev pub AreAllScanned : History → Scanning → Type 0
AreAllScanned history s = (row : Row) → (Has s.rows row ↔ (IsValueRow s.index history s.time row × IsIn s.whole row.key))

-- A scan that starts has read nothing, and has no row.
abbrev pub ScanStartedLaw : Type 0
ScanStartedLaw =
    (history : History) (index : Index) (span : Span) (time : ℕ) (s : Scanning) → IsStarted index span time s → AreScanned history s

-- A reply that has the last values of the keys that it passes leaves it so.
abbrev pub ScanTakenLaw : Type 0
ScanTakenLaw =
    (history : History) (old new : Scanning) (reply : Reply)
    → IsScan old → old.done ≡ false → IsFitting old.rest reply → Takes old reply new → TellsValues old.index history old.time reply
    → AreScanned history old → AreScanned history new

-- Once nothing is left, it has the last values of the whole span.
abbrev pub ScanDoneLaw : Type 0
ScanDoneLaw = (history : History) (s : Scanning) → s.done ≡ true → AreScanned history s → AreAllScanned history s
