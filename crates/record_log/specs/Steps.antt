-- Private: the steps of a put and of a mend, as their private functions do them.
use Rattle.std.specs.Prelude.{◌≡◌, ℕ, ◌<◌, ◌^◌, List, [], ◌∷◌, ◌++◌, length, map, Option, Some, None}
use Rattle.disk_core.specs.Disk.{IsPerhapsWritten}
use Rattle.disk_core.specs.Moments.{Told}
use Rattle.base_core.specs.Numbers.{length_bytes}
use Rattle.record_log.specs.declared.log.RecordLog.{RecordLog}
use Rattle.record_log.specs.declared.extent.Stage.{Stage}
use Rattle.record_log.specs.declared.extent.Stage.TheVariants.{Settled, Begun, Opening}
use Rattle.record_log.specs.Logs.{end_of}
use Rattle.record_log.specs.Records.{Spells, size_of}
use Rattle.record_log.specs.Sizes.{kept_in}
use Rattle.record_log.specs.Through.{IsWrittenThrough}

-- a put of a body of this size has failed so far
abbrev pub with_stage : RecordLog → Stage → RecordLog
with_stage log stage = record log { extent = record log.extent { stage = stage } }

-- the undecided record is taken in
abbrev pub with_record : RecordLog → RecordLog
with_record log = record log { extent = kept_in log.extent }

-- the log has the sizes of these bodies, the file reads as their records, and the bytes are the record of one body more
pub record Ready (log : RecordLog) (content : List ℕ) (bodies : List (List ℕ)) (body bytes : List ℕ) : Type 0 where
  pub short : length body < 2 ^ 32
  pub are : bytes ≡ length_bytes (length body) ++ body ++ 0 ∷ []
  pub sizes : log.extent.sizes ≡ map length bodies
  pub end : end_of log ≡ size_of bodies
  pub spelled : Spells content bodies

abbrev pub IsReady : RecordLog → Option Told → List (List ℕ) → List ℕ → List ℕ → Type 0
IsReady log None bodies body bytes = Unit {0}
IsReady log (Some told) bodies body bytes = Ready log (told.now log.file).content bodies body bytes

-- the last gate is closed: it is written where a put had begun to write it
abbrev pub IsClosed : Stage → ℕ → ℕ → Option Told → Option Told → Type 0
IsClosed Settled file gate old new = new ≡ old
IsClosed (Begun size) file gate old new = new ≡ old
IsClosed (Opening size) file gate old new = IsWrittenThrough file gate (0 ∷ []) old new

-- the write of the last gate failed
abbrev pub IsPerhapsClosed : Stage → ℕ → ℕ → Option Told → Option Told → Type 0
IsPerhapsClosed Settled file gate old new = ⊥
IsPerhapsClosed (Begun size) file gate old new = ⊥
IsPerhapsClosed (Opening size) file gate old new = IsPerhapsWritten file gate 1 old new
