-- What a start makes of a file.
use Rattle.std.proofs.Common.{◌≡◌, ℕ, ◌+◌, ◌<◌, ◌≤◌, max, List, [], ◌∷◌, length, map, Option, Some, None, refl, sym, ◌∙◌, ap, subst, inl, inr, arith}
use Rattle.std.proofs.lemmas.List.{drop_all}
use Rattle.disk_core.specs.Disk.{IsLengthOf, IsPerhapsWritten, TellsSound}
use Rattle.disk_core.specs.Files.{FileState, IsStored, with_bytes}
use Rattle.disk_core.specs.Moments.{Told}
use Rattle.disk_core.proofs.Writing.{image_of_stored, with_bytes_at}
use Rattle.record_log.specs.declared.fault.LogFault.{LogFault}
use Rattle.record_log.specs.declared.fault.LogFault.TheVariants.{NoMemory, Failed, NeedsMend, Full, BadRecord}
use Rattle.record_log.specs.declared.log.RecordLog.{RecordLog}
use Rattle.record_log.specs.declared.extent.Stage.TheVariants.{Settled}
use Rattle.record_log.specs.Gates.{AreFound}
use Rattle.record_log.specs.Devices.{ReadsFile, MomentsHave, IsStoredAs}
use Rattle.record_log.specs.Faults.{IsStartFault, IsBadRecordAt}
use Rattle.record_log.specs.Logs.{HasRecords, KeepsRecords}
use Rattle.record_log.specs.Records.{Spells, IsLog, IsBadLog}
use Rattle.record_log.specs.Through.{IsWrittenThrough}
use Rattle.record_log.proofs.Leaving.{Leaves}
use Rattle.record_log.proofs.Moving.{LeavesOn, WrittenHas, moments_failed, moments_through, left_through}
use Rattle.record_log.proofs.OneLog.{empty_log, spelled_log, spelled_not_bad, one_bad_log}
use Rattle.record_log.proofs.Putting.{SpellsThese, keeps_from_left, has_from_left}
use Rattle.record_log.proofs.Spelled.{same_bodies}

-- ---- a file of at most one byte

abbrev pub IsLogOf : List (List ℕ) → List ℕ → Type 0
IsLogOf bodies image = IsLog image bodies

-- nothing else was touched, so no image has over one byte
small_leaves : (file : FileState) (bytes : List ℕ) → IsStored file bytes → length bytes ≤ 1 → Leaves file 0 1 (IsLogOf [])
small_leaves file bytes stored few content image is_image =
    let longest : file.longest ≡ length bytes = ap (λ (state : FileState). state.longest) stored in
    let size : length image ≤ max file.longest (0 + 1) = is_image.not_longer in
    inl (omega (arith, longest, size), refl)

pub gate_alone : (bytes : List ℕ) → length bytes ≤ 1 → with_bytes bytes 0 (0 ∷ []) ≡ 0 ∷ []
gate_alone bytes few = with_bytes_at [] bytes (0 ∷ []) 0 (omega arith) refl ∙ ap (λ (rest : List ℕ). 0 ∷ rest) (drop_all 1 bytes few)

closed_alone : Spells (0 ∷ []) []
closed_alone = Spells.at_closed_gate 0 [] (λ opened. omega arith)

small_size : (told : Option Told) (file n : ℕ) (bytes : List ℕ) → ReadsFile told file bytes → IsLengthOf told file n → n ≤ 1 → length bytes ≤ 1
small_size None file n bytes reads size few = absurd reads
small_size (Some told) file n bytes reads size few = omega (arith, size, ap length reads)

pub large_size : (told : Option Told) (file n : ℕ) (bytes : List ℕ) → ReadsFile told file bytes → IsLengthOf told file n → n ≡ length bytes
large_size None file n bytes reads size = absurd reads
large_size (Some told) file n bytes reads size = size ∙ ap length reads

pub stored_reads : (told : Option Told) (file : ℕ) (bytes : List ℕ) → IsStoredAs told file bytes → ReadsFile told file bytes
stored_reads None file bytes stored = stored
stored_reads (Some told) file bytes stored = ap (λ (state : FileState). state.content) stored

small_leaves_on : (told : Option Told) (file : ℕ) (bytes : List ℕ) → IsStoredAs told file bytes → length bytes ≤ 1 → LeavesOn file 0 1 (IsLogOf []) told
small_leaves_on None file bytes stored few = tt
small_leaves_on (Some told) file bytes stored few = small_leaves (told.now file) bytes stored few

pub small_written : (told : Option Told) (file : ℕ) (bytes : List ℕ) → ReadsFile told file bytes → length bytes ≤ 1 → WrittenHas file 0 (0 ∷ []) (SpellsThese []) told
small_written None file bytes reads few = tt
small_written (Some told) file bytes reads few =
    let alone : with_bytes (told.now file).content 0 (0 ∷ []) ≡ 0 ∷ [] = ap (λ (list : List ℕ). with_bytes list 0 (0 ∷ [])) reads ∙ gate_alone bytes few in
    subst (SpellsThese []) (sym alone) closed_alone

small_log : (told : Option Told) (file : ℕ) → WrittenHas file 0 (0 ∷ []) (SpellsThese []) told → WrittenHas file 0 (0 ∷ []) (IsLogOf []) told
small_log None file has = tt
small_log (Some told) file has = inr has

pub small_failed_moments : (old new : Option Told) (file n : ℕ) (bytes : List ℕ) (bodies : List (List ℕ)) → IsStoredAs old file bytes → IsLengthOf old file n → n ≤ 1
    → IsLog bytes bodies → IsPerhapsWritten file 0 1 old new → MomentsHave file (IsLogOf bodies) old new
small_failed_moments old new file n bytes bodies stored size few log failed =
    let short : length bytes ≤ 1 = small_size old file n bytes (stored_reads old file bytes stored) size few in
    subst (λ list. MomentsHave file (IsLogOf list) old new) (sym (empty_log bytes bodies short log))
    (moments_failed file 0 1 (IsLogOf []) old new (small_leaves_on old file bytes stored short) failed)

pub small_moments : (old new : Option Told) (file n : ℕ) (bytes : List ℕ) (bodies : List (List ℕ)) → IsStoredAs old file bytes → IsLengthOf old file n → n ≤ 1
    → IsLog bytes bodies → IsWrittenThrough file 0 (0 ∷ []) old new → MomentsHave file (IsLogOf bodies) old new
small_moments old new file n bytes bodies stored size few log through =
    let reads : ReadsFile old file bytes = stored_reads old file bytes stored in
    let short : length bytes ≤ 1 = small_size old file n bytes reads size few in
    subst (λ list. MomentsHave file (IsLogOf list) old new) (sym (empty_log bytes bodies short log))
    (moments_through file 0 (0 ∷ []) (IsLogOf []) old new (small_leaves_on old file bytes stored short)
    (small_log old file (small_written old file bytes reads short)) through)

pub small_has : (old new : Option Told) (log : RecordLog) (n : ℕ) (bytes : List ℕ) (bodies : List (List ℕ)) → TellsSound new → ReadsFile old log.file bytes
    → IsLengthOf old log.file n → n ≤ 1 → IsLog bytes bodies → IsWrittenThrough log.file 0 (0 ∷ []) old new → log.extent.stage ≡ Settled → log.extent.sizes ≡ []
    → HasRecords log new bodies
small_has old new log n bytes bodies sound reads size few is_log through settled sizes =
    let short : length bytes ≤ 1 = small_size old log.file n bytes reads size few in
    subst (HasRecords log new) (sym (empty_log bytes bodies short is_log))
    (has_from_left log new [] sound settled sizes
    (left_through log.file 0 (0 ∷ []) (SpellsThese []) old new (small_written old log.file bytes reads short) through))

pub small_keeps : (old new : Option Told) (log : RecordLog) (n : ℕ) (bytes : List ℕ) (bodies : List (List ℕ)) → IsStoredAs old log.file bytes
    → IsLengthOf old log.file n → n ≤ 1 → IsLog bytes bodies → IsWrittenThrough log.file 0 (0 ∷ []) old new → KeepsRecords log new bodies
small_keeps old new log n bytes bodies stored size few is_log through =
    let reads : ReadsFile old log.file bytes = stored_reads old log.file bytes stored in
    let short : length bytes ≤ 1 = small_size old log.file n bytes reads size few in
    subst (KeepsRecords log new) (sym (empty_log bytes bodies short is_log))
    (keeps_from_left log new []
    (left_through log.file 0 (0 ∷ []) (SpellsThese []) old new (small_written old log.file bytes reads short) through))

-- ---- a longer file

-- the records that were found are those of the file
pub large_has : (told : Option Told) (log : RecordLog) (found : List ℕ) (bytes : List ℕ) (bodies : List (List ℕ)) → ReadsFile told log.file bytes → 1 < length bytes
    → IsLog bytes bodies → AreFound bytes found → log.extent.stage ≡ Settled → log.extent.sizes ≡ found → HasRecords log told bodies
large_has None log found bytes bodies reads long is_log are settled sizes = tt
large_has (Some told) log found bytes bodies reads long is_log are settled sizes =
    let spells : Spells bytes bodies = spelled_log bytes bodies long is_log in
    let same : are.bodies ≡ bodies = same_bodies bytes are.bodies bodies are.spelled spells in
    record {
      settled = settled;
      spelled = subst (λ list. Spells list bodies) (sym reads) spells;
      sizes = sizes ∙ are.sizes_are ∙ ap (map length) same;
    }

pub large_keeps : (told : Option Told) (log : RecordLog) (bytes : List ℕ) (bodies : List (List ℕ)) → IsStoredAs told log.file bytes → 1 < length bytes
    → IsLog bytes bodies → KeepsRecords log told bodies
large_keeps None log bytes bodies stored long is_log = tt
large_keeps (Some told) log bytes bodies stored long is_log = λ image is_image.
    subst (SpellsThese bodies) (sym (image_of_stored (told.now log.file) bytes image stored is_image)) (spelled_log bytes bodies long is_log)

pub found_not_bad : (found : List ℕ) (bytes : List ℕ) (at : ℕ) → AreFound bytes found → IsBadLog bytes at → ⊥
found_not_bad found bytes at are bad = spelled_not_bad bytes are.bodies at are.spelled bad.1

pub bad_start : (bytes : List ℕ) (at : ℕ) (fault : LogFault) → IsBadLog bytes at → IsStartFault bytes fault → IsBadRecordAt at fault
bad_start bytes at NoMemory bad fault = tt
bad_start bytes at Failed bad fault = tt
bad_start bytes at NeedsMend bad fault = fault
bad_start bytes at Full bad fault = fault
bad_start bytes at (BadRecord place) bad fault = one_bad_log bytes place at fault bad
