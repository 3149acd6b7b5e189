-- What the calls of a window answer.
use Rattle.std.specs.Prelude.{◌≡◌, ◌≢◌, ℕ, ◌≤◌, List, length, Option, Some, None, Result, Err, IfSome}
use Rattle.std.specs.List.{AllByRecursion}
use Rattle.fed_bytes.specs.declared.span.Span.{Span}
use Rattle.fed_bytes.specs.Keys.{IsBefore, IsUpTo, IsBeforeEnd, IsIn}
use Rattle.base_core.specs.Lists.{Has}
use Rattle.base_core.specs.Faults.{HasRisen}
use Rattle.row_core.specs.declared.rows.Row.{Row}
use Rattle.row_core.specs.declared.rows.Chunk.{Chunk}
use Rattle.window_core.specs.declared.fault.WindowFault.{WindowFault}
use Rattle.window_core.specs.declared.fault.WindowFault.TheVariants.{NoMemory, Failed, Damaged, BadRows}
use Rattle.row_core.specs.Rows.{StandInOrder, AreWithin, IsWithin, IsAt, Rise}

-- the count of faults doesn't fall, and a fault of the device is answered only where it has risen
pub record IsCountedBy {T : Type 0} (before now : ℕ) (result : Result T WindowFault) : Type 0 where
  pub later : before ≤ now
  pub cause : result ≡ Err Failed → HasRisen before now

abbrev pub IsNoDamage : WindowFault → Type 0
IsNoDamage NoMemory = Unit {0}
IsNoDamage Failed = Unit {0}
IsNoDamage (Damaged block kept found) = ⊥
IsNoDamage (BadRows block) = ⊥

-- Why a fault may come, whatever a device gave: damage only where the two digests differ, and rows that are none only in a block that the
-- window says this of.
abbrev pub IsCause : (ℕ → Type 0) → WindowFault → Type 0
IsCause bad_rows NoMemory = Unit {0}
IsCause bad_rows Failed = Unit {0}
IsCause bad_rows (Damaged block kept found) = kept ≢ found
IsCause bad_rows (BadRows block) = bad_rows block

-- what an answered row is, whatever a device gave: one of the key, at or before the time, within the window
abbrev pub IsFound : Span → ℕ → ℕ → List ℕ → ℕ → Option Row → Type 0
IsFound span from upto key time None = Unit {0}
IsFound span from upto key time (Some row) = IsAt key time row × IsWithin span from upto row

-- the next key stands behind the key that was asked for
abbrev pub IsOnward : List ℕ → Option (List ℕ) → Type 0
IsOnward key None = Unit {0}
IsOnward key (Some next) = IsBefore key next

-- What an answered chunk is, whatever a device gave: rows in order from the key on, within the window; and a later key, in the span, before
-- which they stand.
pub record IsPart (span : Span) (from upto : ℕ) (key : List ℕ) (chunk : Chunk) : Type 0 where
  pub in_order : StandInOrder chunk.rows
  pub within : AreWithin span from upto chunk.rows
  pub from_key : AllByRecursion (λ row. IsUpTo key row.key) chunk.rows
  pub onward : IsOnward key chunk.next
  pub before_next : AllByRecursion (λ row. IsBeforeEnd row.key chunk.next) chunk.rows
  pub next_in : IfSome chunk.next (IsIn span)

-- where the next key stands, so many keys were passed, and it stands behind them; where none does, at most so many were
abbrev pub ArePassed : ℕ → List (List ℕ) → Option (List ℕ) → Type 0
ArePassed most keys None = length keys ≤ most
ArePassed most keys (Some next) = (length keys ≡ most) × AllByRecursion (λ key. IsBefore key next) keys

-- The keys that a chunk has passed, whatever a device gave, and of which some may have left no row: they rise from the key that was asked
-- for, within the span; and each row is of one of them.
pub record IsPassage (span : Span) (key : List ℕ) (most : ℕ) (chunk : Chunk) : Type 0 where
  pub keys : List (List ℕ)
  pub rise : Rise keys
  pub from_key : AllByRecursion (IsUpTo key) keys
  pub within : AllByRecursion (IsIn span) keys
  pub rows : AllByRecursion (λ row. Has keys row.key) chunk.rows
  pub passed : ArePassed most keys chunk.next
