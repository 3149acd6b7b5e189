-- A start of a file that an earlier start may have begun.
use Rattle.std.proofs.Common.{◌≡◌, ℕ, ◌+◌, ◌≤◌, max, List, [], ◌∷◌, length, Option, Some, None, refl, sym, ap, subst, inl, inr, arith}
use Rattle.disk_core.specs.Disk.{IsLengthOf, IsPerhapsWritten, TellsSound}
use Rattle.disk_core.specs.Files.{FileState, IsTornFile, with_bytes}
use Rattle.disk_core.specs.Moments.{Told, StepsPerhaps, EachImage}
use Rattle.record_log.specs.declared.log.RecordLog.{RecordLog}
use Rattle.record_log.specs.declared.extent.Stage.TheVariants.{Settled}
use Rattle.record_log.specs.Devices.{IsFresh, IsStoredAs, ChangesOnly, MomentsHave}
use Rattle.record_log.specs.Items.{Carries}
use Rattle.record_log.specs.Logs.{HasRecords, KeepsRecords}
use Rattle.record_log.specs.Through.{IsWrittenThrough}
use Rattle.record_log.proofs.Leaving.{Leaves}
use Rattle.record_log.proofs.Moving.{LeavesOn, WrittenHas, moments_failed, moments_through, left_through}
use Rattle.record_log.proofs.Putting.{SpellsThese, keeps_from_left, has_from_left}
use Rattle.record_log.proofs.Starting.{gate_alone, small_written}

abbrev pub IsTiny : List ℕ → Type 0
IsTiny image = length image ≤ 1

-- what reads give of a fresh file has at most one byte
tiny_content : (told : Told) (file : ℕ) → TellsSound (Some told) → IsFresh (Some told) file → length (told.now file).content ≤ 1
tiny_content told file sound fresh = omega (arith, (sound file).content.not_longer, fresh)

-- For the layers above: each image of a fresh file has at most one byte.
pub fresh_images : (told : Told) (file : ℕ) → IsFresh (Some told) file → EachImage file IsTiny told.now
fresh_images told file fresh image is_image = omega (arith, is_image.not_longer, fresh)

-- a start doesn't look for records in a fresh file
pub fresh_small : (told : Option Told) (file n : ℕ) → TellsSound told → IsFresh told file → IsLengthOf told file n → n ≤ 1
fresh_small None file n sound fresh size = absurd fresh
fresh_small (Some told) file n sound fresh size = omega (arith, size, tiny_content told file sound fresh)

tiny_leaves : (file : FileState) → file.longest ≤ 1 → Leaves file 0 1 IsTiny
tiny_leaves file few content image is_image = let size : length image ≤ max file.longest (0 + 1) = is_image.not_longer in omega (arith, few)

tiny_leaves_on : (told : Option Told) (file : ℕ) → IsFresh told file → LeavesOn file 0 1 IsTiny told
tiny_leaves_on None file fresh = tt
tiny_leaves_on (Some told) file fresh = tiny_leaves (told.now file) fresh

tiny_written : (told : Option Told) (file : ℕ) → TellsSound told → IsFresh told file → WrittenHas file 0 (0 ∷ []) IsTiny told
tiny_written None file sound fresh = tt
tiny_written (Some told) file sound fresh =
    let alone : with_bytes (told.now file).content 0 (0 ∷ []) ≡ 0 ∷ [] = gate_alone (told.now file).content (tiny_content told file sound fresh) in
    omega (arith, ap length alone)

-- the write of the gate failed

torn_fresh : (old new : FileState) → old.longest ≤ 1 → IsTornFile 0 1 old new → new.longest ≤ 1
torn_fresh old new few (content, torn, is) =
    let longest : new.longest ≡ max old.longest (0 + 1) = ap (λ (state : FileState). state.longest) is in omega (arith, few, longest)

failed_fresh_told : (file : ℕ) (old new : Told) → (old.now file).longest ≤ 1 → StepsPerhaps file (IsTornFile 0 1) old new → (new.now file).longest ≤ 1
failed_fresh_told file old new few (inl same) = subst (λ (told : Told). (told.now file).longest ≤ 1) (sym same) few
failed_fresh_told file old new few (inr steps) = torn_fresh (old.now file) (new.now file) few steps.changed

pub failed_fresh : (file : ℕ) (old new : Option Told) → IsFresh old file → IsPerhapsWritten file 0 1 old new → IsFresh new file
failed_fresh file None new fresh failed = absurd fresh
failed_fresh file (Some old) None fresh failed = absurd failed
failed_fresh file (Some old) (Some new) fresh failed = failed_fresh_told file old new fresh failed

pub failed_fresh_moments : (file : ℕ) (old new : Option Told) → IsFresh old file → IsPerhapsWritten file 0 1 old new → MomentsHave file IsTiny old new
failed_fresh_moments file old new fresh failed = moments_failed file 0 1 IsTiny old new (tiny_leaves_on old file fresh) failed

-- it is written

pub fresh_moments : (file : ℕ) (old new : Option Told) → TellsSound old → IsFresh old file → IsWrittenThrough file 0 (0 ∷ []) old new → MomentsHave file IsTiny old new
fresh_moments file old new sound fresh through =
    moments_through file 0 (0 ∷ []) IsTiny old new (tiny_leaves_on old file fresh) (tiny_written old file sound fresh) through

pub fresh_carries : (log : RecordLog) (old new : Option Told) → TellsSound old → TellsSound new → IsFresh old log.file → IsWrittenThrough log.file 0 (0 ∷ []) old new
    → log.extent.stage ≡ Settled → log.extent.sizes ≡ [] → Carries log new [] None
fresh_carries log None new sound sound_new fresh through settled sizes = absurd fresh
fresh_carries log (Some old) None sound sound_new fresh through settled sizes = absurd through
fresh_carries log (Some old) (Some new) sound sound_new fresh through settled sizes =
    let content : List ℕ = (old.now log.file).content in
    let left = left_through log.file 0 (0 ∷ []) (SpellsThese []) (Some old) (Some new)
    (small_written (Some old) log.file content refl (tiny_content old log.file sound fresh)) through in
    record { has = has_from_left log (Some new) [] sound_new settled sizes left; keeps = keeps_from_left log (Some new) [] left }

-- ---- a file that is stored

pub start_carries : (log : RecordLog) (old new : Option Told) (file : ℕ) (bytes : List ℕ) (bodies : List (List ℕ)) → IsStoredAs old file bytes → ChangesOnly file old new
    → HasRecords log new bodies → KeepsRecords log new bodies → Carries log new bodies None
start_carries log None new file bytes bodies stored goes has keeps = absurd stored
start_carries log (Some old) None file bytes bodies stored goes has keeps = absurd goes
start_carries log (Some old) (Some new) file bytes bodies stored goes has keeps = record { has = has; keeps = keeps }
