-- What the contracts say of a log, and of the device that its file is on. Where the device doesn't tell its files, the words on them say nothing.
use Rattle.std.specs.Prelude.{◌≡◌, ℕ, ◌+◌, ◌<◌, List, [], ◌∷◌, ◌++◌, length, map, take, Bool, true, false, Option, Some, None, slice_set, ◌⊎◌}
use Rattle.disk_core.specs.Moments.{Told, State, EachImage}
use Rattle.record_log.specs.declared.log.RecordLog.{RecordLog}
use Rattle.record_log.specs.declared.extent.Stage.{Stage}
use Rattle.record_log.specs.declared.extent.Stage.TheVariants.{Settled, Begun, Opening}
use Rattle.record_log.specs.Records.{Spells, IsLog, size_of}
use Rattle.record_log.specs.Sizes.{total_of, undecided_size, undecided_bytes, undecided_count}

abbrev pub file_of : RecordLog → ℕ
file_of log = log.file

abbrev pub limit_of : RecordLog → ℕ
limit_of log = log.limit

-- ---- sizes

-- the sizes of the bodies that are in
abbrev pub sizes_of : RecordLog → List ℕ
sizes_of log = log.extent.sizes

-- the size of the body whose put failed and that no mend has decided yet
abbrev pub undecided_of : RecordLog → Option ℕ
undecided_of log = undecided_size log.extent.stage

abbrev pub is_undecided : Stage → Bool
is_undecided Settled = false
is_undecided (Begun size) = true
is_undecided (Opening size) = true

-- a put failed, and no mend has decided yet
abbrev pub needs_mend : RecordLog → Bool
needs_mend log = is_undecided log.extent.stage

-- how many records are in
abbrev pub count_of : RecordLog → ℕ
count_of log = length (sizes_of log)

-- the place of the last gate: how many bytes the records that are in have
abbrev pub end_of : RecordLog → ℕ
end_of log = total_of (sizes_of log)

-- the place of the gate of the k-th record
abbrev pub gate_of : RecordLog → ℕ → ℕ
gate_of log k = total_of (take k (sizes_of log))

-- A record with a body of this size, with its length and the gate behind it, would end past the limit. An undecided one counts as kept.
abbrev pub IsFull : RecordLog → ℕ → Type 0
IsFull log size = limit_of log < end_of log + undecided_bytes log.extent.stage + 6 + size

-- it has taken the memory for one record more, also if the undecided one is kept
abbrev pub HasRoom : RecordLog → Type 0
HasRoom log = undecided_count log.extent.stage < log.extent.room

-- the same log, but for the memory that it has taken
pub record IsSameLog (old new : RecordLog) : Type 0 where
  pub file : new.file ≡ old.file
  pub limit : new.limit ≡ old.limit
  pub sizes : new.extent.sizes ≡ old.extent.sizes
  pub stage : new.extent.stage ≡ old.extent.stage

-- ---- records

-- the bytes are the records of these bodies, and the log has their sizes
pub record HasThese (log : RecordLog) (content : List ℕ) (bodies : List (List ℕ)) : Type 0 where
  pub settled : log.extent.stage ≡ Settled
  pub spelled : Spells content bodies
  pub sizes : log.extent.sizes ≡ map length bodies

-- no put is undecided, and the file reads as the log has it
abbrev pub HasRecords : RecordLog → Option Told → List (List ℕ) → Type 0
HasRecords log None bodies = Unit {0}
HasRecords log (Some told) bodies = HasThese log (told.now log.file).content bodies

-- Whatever a crash now leaves of the file is a log of these bodies, and has its last gate: a file without one would be an empty log too, and its
-- first gate could be torn open.
abbrev pub KeepsRecords : RecordLog → Option Told → List (List ℕ) → Type 0
KeepsRecords log None bodies = Unit {0}
KeepsRecords log (Some told) bodies = EachImage log.file (λ image. Spells image bodies) told.now

-- What a put that failed lets a crash leave. Before it began to write its gate, that is the records from before. From then on it is any byte
-- at the gate: behind it the new record stands whole.
abbrev pub IsLeft : Stage → List (List ℕ) → List ℕ → List ℕ → Type 0
IsLeft Settled bodies body image = ⊥
IsLeft (Begun size) bodies body image = Spells image bodies
IsLeft (Opening size) bodies body image = Spells (slice_set image (size_of bodies) 1) (bodies ++ body ∷ [])

-- the log has the sizes of the records that are in, and that of the undecided one
pub record Undecided (log : RecordLog) (state : State) (bodies : List (List ℕ)) (body : List ℕ) : Type 0 where
  pub size : undecided_size log.extent.stage ≡ Some (length body)
  pub sizes : log.extent.sizes ≡ map length bodies
  pub left : EachImage log.file (IsLeft log.extent.stage bodies body) state

-- a put of this body failed: the file is a log of the bodies from before, or of these and the new one
abbrev pub IsUndecided : RecordLog → Option Told → List (List ℕ) → List ℕ → Type 0
IsUndecided log None bodies body = Unit {0}
IsUndecided log (Some told) bodies body = Undecided log told.now bodies body

-- a log of these bodies, or of these and one more
abbrev pub IsEitherLog : List (List ℕ) → List ℕ → List ℕ → Type 0
IsEitherLog bodies body image = IsLog image bodies ⊎ IsLog image (bodies ++ body ∷ [])
