-- The four calls of a put: what each leaves, and what its moments are.
use Rattle.std.proofs.Common.{◌≡◌, ℕ, ◌+◌, ◌<◌, ◌^◌, List, [], ◌∷◌, ◌++◌, length, map, Option, Some, None, Result, Ok, Err, IsErr, MatchResult, OnErr, refl, sym, ap, subst, inl, inr, arith}
use Rattle.std.proofs.lemmas.Bool.{false≢true}
use Rattle.disk_core.specs.Disk.{IsPerhapsWritten, TellsSound}
use Rattle.disk_core.specs.Files.{with_bytes}
use Rattle.disk_core.specs.Moments.{Told}
use Rattle.record_log.specs.declared.log.RecordLog.{RecordLog}
use Rattle.record_log.specs.declared.extent.Stage.TheVariants.{Settled, Begun, Opening}
use Rattle.base_core.specs.Numbers.{length_bytes}
use Rattle.record_log.specs.Logs.{end_of, HasRecords, KeepsRecords, IsUndecided, IsEitherLog}
use Rattle.record_log.specs.Devices.{MomentsHave}
use Rattle.record_log.specs.Records.{Spells, size_of}
use Rattle.record_log.specs.Steps.{IsReady, with_stage, with_record}
use Rattle.record_log.specs.Through.{IsWrittenThrough}
use Rattle.record_log.proofs.Held.{Opens, IsHeld, held_from, held_record, held_with, held_open, held_closed, opens_from, either_log}
use Rattle.record_log.proofs.Extents.{end_from, sizes-more}
use Rattle.record_log.proofs.Leaving.{leaves_behind, leaves_opening}
use Rattle.record_log.proofs.Moving.{EachLeft, LeavesOn, WrittenHas, moments_failed, left_failed, moments_through, left_through, moments_further}

pub on_err : {T E : Type 0} (result : Result T E) (P : Type 0) → P → OnErr result P
on_err (Ok x) P has = tt
on_err (Err e) P has = has

pub on_any_err : {T E : Type 0} (result : Result T E) (P : T → Type 0) (Q : E → Type 0) → IsErr result → ((fault : E) → Q fault) → MatchResult result P Q
on_any_err (Ok x) P Q is has = absurd (false≢true is)
on_any_err (Err e) P Q is has = has e

-- ---- the record

abbrev pub SpellsThese : List (List ℕ) → List ℕ → Type 0
SpellsThese bodies image = Spells image bodies

-- images that each spell these bodies are what a log keeps
pub keeps_from_left : (log : RecordLog) (told : Option Told) (bodies : List (List ℕ)) → EachLeft log.file (SpellsThese bodies) told → KeepsRecords log told bodies
keeps_from_left log None bodies left = tt
keeps_from_left log (Some told) bodies left = left

pub left_from_keeps : (log : RecordLog) (told : Option Told) (bodies : List (List ℕ)) → KeepsRecords log told bodies → EachLeft log.file (SpellsThese bodies) told
left_from_keeps log None bodies keeps = tt
left_from_keeps log (Some told) bodies keeps = keeps

-- the write of the record leaves the records that are in
pub ready_leaves : (log : RecordLog) (told : Option Told) (bodies : List (List ℕ)) (body bytes : List ℕ) (count : ℕ) → TellsSound told
    → IsReady log told bodies body bytes → KeepsRecords log told bodies → LeavesOn log.file (end_of log + 1) count (SpellsThese bodies) told
ready_leaves log None bodies body bytes count sound ready keeps = tt
ready_leaves log (Some told) bodies body bytes count sound ready keeps =
    leaves_behind (told.now log.file) (end_of log + 1) count bodies (sound log.file) keeps (ap (λ (n : ℕ). n + 1) ready.end)

-- and, once it is written, the record whole
pub ready_opens : (log : RecordLog) (told : Option Told) (bodies : List (List ℕ)) (body bytes : List ℕ)
    → IsReady log told bodies body bytes → WrittenHas log.file (end_of log + 1) bytes (Opens bodies body) told
ready_opens log None bodies body bytes ready = tt
ready_opens log (Some told) bodies body bytes ready =
    let content : List ℕ = (told.now log.file).content in
    let held : IsHeld (with_bytes content (size_of bodies + 1) bytes) bodies body = held_record content bodies body bytes ready.spelled ready.short ready.are in
    subst (λ (n : ℕ). Opens bodies body (with_bytes content (n + 1) bytes)) (sym ready.end)
    (opens_from (with_bytes content (size_of bodies + 1) bytes) bodies body held)

leaves_weaker : (file at count : ℕ) (P Q : List ℕ → Type 0) → ((image : List ℕ) → P image → Q image) → (told : Option Told) → LeavesOn file at count P told
    → LeavesOn file at count Q told
leaves_weaker file at count P Q weaker None leaves = tt
leaves_weaker file at count P Q weaker (Some told) leaves = λ content image is_image. weaker image (leaves content image is_image)

written_weaker : (file at : ℕ) (bytes : List ℕ) (P Q : List ℕ → Type 0) → ((image : List ℕ) → P image → Q image) → (told : Option Told)
    → WrittenHas file at bytes P told → WrittenHas file at bytes Q told
written_weaker file at bytes P Q weaker None has = tt
written_weaker file at bytes P Q weaker (Some told) has = weaker (with_bytes (told.now file).content at bytes) has

as_either : (bodies : List (List ℕ)) (body image : List ℕ) → Spells image bodies → IsEitherLog bodies body image
as_either bodies body image spells = inl (inr spells)

pub record_failed_moments : (log : RecordLog) (old new : Option Told) (bodies : List (List ℕ)) (body bytes : List ℕ) → TellsSound old
    → IsReady log old bodies body bytes → KeepsRecords log old bodies → IsPerhapsWritten log.file (end_of log + 1) (length bytes) old new → MomentsHave log.file (IsEitherLog bodies body) old new
record_failed_moments log old new bodies body bytes sound ready keeps failed =
    moments_failed log.file (end_of log + 1) (length bytes) (IsEitherLog bodies body) old new
    (leaves_weaker log.file (end_of log + 1) (length bytes) (SpellsThese bodies) (IsEitherLog bodies body) (as_either bodies body) old
    (ready_leaves log old bodies body bytes (length bytes) sound ready keeps)) failed

pub record_failed_left : (log : RecordLog) (old new : Option Told) (bodies : List (List ℕ)) (body bytes : List ℕ) → TellsSound old
    → IsReady log old bodies body bytes → KeepsRecords log old bodies → IsPerhapsWritten log.file (end_of log + 1) (length bytes) old new → EachLeft log.file (SpellsThese bodies) new
record_failed_left log old new bodies body bytes sound ready keeps failed =
    left_failed log.file (end_of log + 1) (length bytes) (SpellsThese bodies) old new (ready_leaves log old bodies body bytes (length bytes) sound ready keeps)
    (left_from_keeps log old bodies keeps) failed

pub record_through_moments : (log : RecordLog) (old new : Option Told) (bodies : List (List ℕ)) (body bytes : List ℕ) → TellsSound old
    → IsReady log old bodies body bytes → KeepsRecords log old bodies → IsWrittenThrough log.file (end_of log + 1) bytes old new → MomentsHave log.file (IsEitherLog bodies body) old new
record_through_moments log old new bodies body bytes sound ready keeps through =
    moments_through log.file (end_of log + 1) bytes (IsEitherLog bodies body) old new
    (leaves_weaker log.file (end_of log + 1) (length bytes) (SpellsThese bodies) (IsEitherLog bodies body) (as_either bodies body) old
    (ready_leaves log old bodies body bytes (length bytes) sound ready keeps))
    (written_weaker log.file (end_of log + 1) bytes (Opens bodies body) (IsEitherLog bodies body) (λ image. either_log image bodies body) old
    (ready_opens log old bodies body bytes ready)) through

pub record_through_left : (log : RecordLog) (old new : Option Told) (bodies : List (List ℕ)) (body bytes : List ℕ)
    → IsReady log old bodies body bytes → IsWrittenThrough log.file (end_of log + 1) bytes old new → EachLeft log.file (Opens bodies body) new
record_through_left log old new bodies body bytes ready through =
    left_through log.file (end_of log + 1) bytes (Opens bodies body) old new (ready_opens log old bodies body bytes ready) through

-- ---- the gate

-- the write of the gate leaves the record whole
pub gate_leaves : (file at : ℕ) (bodies : List (List ℕ)) (body : List ℕ) (told : Option Told) → TellsSound told → at ≡ size_of bodies
    → EachLeft file (Opens bodies body) told → LeavesOn file at 1 (Opens bodies body) told
gate_leaves file at bodies body None sound place opens = tt
gate_leaves file at bodies body (Some told) sound place opens = leaves_opening (told.now file) at bodies body (sound file) opens place

-- with any byte written at the gate the record stands whole behind it
pub gate_opens : (file at : ℕ) (bodies : List (List ℕ)) (body : List ℕ) (byte : ℕ) (told : Option Told) → TellsSound told → at ≡ size_of bodies
    → EachLeft file (Opens bodies body) told → WrittenHas file at (byte ∷ []) (Opens bodies body) told
gate_opens file at bodies body byte None sound place opens = tt
gate_opens file at bodies body byte (Some told) sound place opens =
    let content : List ℕ = (told.now file).content in
    let held : IsHeld content bodies body = held_from content bodies body (opens content (sound file).content) in
    subst (λ (n : ℕ). Opens bodies body (with_bytes content n (byte ∷ []))) (sym place)
    (opens_from (with_bytes content (size_of bodies) (byte ∷ [])) bodies body (held_with content bodies body byte held))

-- an open gate takes the record in
pub gate_takes_in : (file at : ℕ) (bodies : List (List ℕ)) (body : List ℕ) (told : Option Told) → TellsSound told → at ≡ size_of bodies
    → EachLeft file (Opens bodies body) told → WrittenHas file at (1 ∷ []) (SpellsThese (bodies ++ body ∷ [])) told
gate_takes_in file at bodies body None sound place opens = tt
gate_takes_in file at bodies body (Some told) sound place opens =
    let content : List ℕ = (told.now file).content in
    let held : IsHeld content bodies body = held_from content bodies body (opens content (sound file).content) in
    subst (λ (n : ℕ). Spells (with_bytes content n (1 ∷ [])) (bodies ++ body ∷ [])) (sym place)
    (held_open (with_bytes content (size_of bodies) (1 ∷ [])) bodies body (held_with content bodies body 1 held) refl)

-- and a closed one leaves it out
pub gate_leaves_out : (file at : ℕ) (bodies : List (List ℕ)) (body : List ℕ) (told : Option Told) → TellsSound told → at ≡ size_of bodies
    → EachLeft file (Opens bodies body) told → WrittenHas file at (0 ∷ []) (SpellsThese bodies) told
gate_leaves_out file at bodies body None sound place opens = tt
gate_leaves_out file at bodies body (Some told) sound place opens =
    let content : List ℕ = (told.now file).content in
    let held : IsHeld content bodies body = held_from content bodies body (opens content (sound file).content) in
    subst (λ (n : ℕ). Spells (with_bytes content n (0 ∷ [])) bodies) (sym place)
    (held_closed (with_bytes content (size_of bodies) (0 ∷ [])) bodies body (held_with content bodies body 0 held) (λ opened. omega arith))

pub gate_failed_moments : (file at : ℕ) (bodies : List (List ℕ)) (body : List ℕ) (old new : Option Told) → TellsSound old → at ≡ size_of bodies
    → EachLeft file (Opens bodies body) old → IsPerhapsWritten file at 1 old new → MomentsHave file (IsEitherLog bodies body) old new
gate_failed_moments file at bodies body old new sound place opens failed =
    moments_failed file at 1 (IsEitherLog bodies body) old new
    (leaves_weaker file at 1 (Opens bodies body) (IsEitherLog bodies body) (λ image. either_log image bodies body) old
    (gate_leaves file at bodies body old sound place opens)) failed

pub gate_failed_left : (file at : ℕ) (bodies : List (List ℕ)) (body : List ℕ) (old new : Option Told) → TellsSound old → at ≡ size_of bodies
    → EachLeft file (Opens bodies body) old → IsPerhapsWritten file at 1 old new → EachLeft file (Opens bodies body) new
gate_failed_left file at bodies body old new sound place opens failed =
    left_failed file at 1 (Opens bodies body) old new (gate_leaves file at bodies body old sound place opens) opens failed

pub gate_through_moments : (file at : ℕ) (bodies : List (List ℕ)) (body : List ℕ) (byte : ℕ) (old new : Option Told) → TellsSound old → at ≡ size_of bodies
    → EachLeft file (Opens bodies body) old → IsWrittenThrough file at (byte ∷ []) old new → MomentsHave file (IsEitherLog bodies body) old new
gate_through_moments file at bodies body byte old new sound place opens through =
    moments_through file at (byte ∷ []) (IsEitherLog bodies body) old new
    (leaves_weaker file at 1 (Opens bodies body) (IsEitherLog bodies body) (λ image. either_log image bodies body) old
    (gate_leaves file at bodies body old sound place opens))
    (written_weaker file at (byte ∷ []) (Opens bodies body) (IsEitherLog bodies body) (λ image. either_log image bodies body) old
    (gate_opens file at bodies body byte old sound place opens)) through

-- ---- the log after a put

-- before the gate began to be written
pub undecided_begun : (log : RecordLog) (old new : Option Told) (bodies : List (List ℕ)) (body bytes : List ℕ) (size : ℕ) → TellsSound old → size ≡ length body
    → IsReady log old bodies body bytes → KeepsRecords log old bodies → IsPerhapsWritten log.file (end_of log + 1) (length bytes) old new
    → IsUndecided (with_stage log (Begun size)) new bodies body
undecided_begun log None None bodies body bytes size sound is ready keeps failed = tt
undecided_begun log None (Some new) bodies body bytes size sound is ready keeps failed = absurd failed
undecided_begun log (Some old) None bodies body bytes size sound is ready keeps failed = absurd failed
undecided_begun log (Some old) (Some new) bodies body bytes size sound is ready keeps failed =
    record { size = ap Some is; sizes = ready.sizes; left = record_failed_left log (Some old) (Some new) bodies body bytes sound ready keeps failed }

-- A put's second half begins with the record on the disk.
pub undecided_opening : (log : RecordLog) (old between new : Option Told) (bodies : List (List ℕ)) (body bytes : List ℕ) (size : ℕ)
    → TellsSound between → size ≡ length body → IsReady log old bodies body bytes → IsWrittenThrough log.file (end_of log + 1) bytes old between
    → IsPerhapsWritten log.file (end_of log) 1 between new → IsUndecided (with_stage log (Opening size)) new bodies body
undecided_opening log None None None bodies body bytes size sound_between is ready through failed = tt
undecided_opening log None None (Some new) bodies body bytes size sound_between is ready through failed = absurd failed
undecided_opening log None (Some between) new bodies body bytes size sound_between is ready through failed = absurd through
undecided_opening log (Some old) None new bodies body bytes size sound_between is ready through failed = absurd through
undecided_opening log (Some old) (Some between) None bodies body bytes size sound_between is ready through failed = absurd failed
undecided_opening log (Some old) (Some between) (Some new) bodies body bytes size sound_between is ready through failed =
    record {
      size = ap Some is;
      sizes = ready.sizes;
      left = gate_failed_left log.file (end_of log) bodies body (Some between) (Some new) sound_between ready.end
          (record_through_left log (Some old) (Some between) bodies body bytes ready through) failed;
    }

pub moments_opening : (log : RecordLog) (old between new : Option Told) (bodies : List (List ℕ)) (body bytes : List ℕ) → TellsSound old
    → TellsSound between → IsReady log old bodies body bytes → KeepsRecords log old bodies → IsWrittenThrough log.file (end_of log + 1) bytes old between
    → IsPerhapsWritten log.file (end_of log) 1 between new → MomentsHave log.file (IsEitherLog bodies body) old new
moments_opening log None None new bodies body bytes sound sound_between ready keeps through failed =
    moments_failed log.file (end_of log) 1 (IsEitherLog bodies body) None new tt failed
moments_opening log None (Some between) new bodies body bytes sound sound_between ready keeps through failed = absurd through
moments_opening log (Some old) None new bodies body bytes sound sound_between ready keeps through failed = absurd through
moments_opening log (Some old) (Some between) new bodies body bytes sound sound_between ready keeps through failed =
    moments_further log.file (IsEitherLog bodies body) (Some old) (Some between) new
    (record_through_moments log (Some old) (Some between) bodies body bytes sound ready keeps through)
    (gate_failed_moments log.file (end_of log) bodies body (Some between) new sound_between ready.end
    (record_through_left log (Some old) (Some between) bodies body bytes ready through) failed)

pub moments_put : (log : RecordLog) (old between new : Option Told) (bodies : List (List ℕ)) (body bytes : List ℕ) → TellsSound old
    → TellsSound between → IsReady log old bodies body bytes → KeepsRecords log old bodies → IsWrittenThrough log.file (end_of log + 1) bytes old between
    → IsWrittenThrough log.file (end_of log) (1 ∷ []) between new → MomentsHave log.file (IsEitherLog bodies body) old new
moments_put log None None new bodies body bytes sound sound_between ready keeps through opened =
    moments_through log.file (end_of log) (1 ∷ []) (IsEitherLog bodies body) None new tt tt opened
moments_put log None (Some between) new bodies body bytes sound sound_between ready keeps through opened = absurd through
moments_put log (Some old) None new bodies body bytes sound sound_between ready keeps through opened = absurd through
moments_put log (Some old) (Some between) new bodies body bytes sound sound_between ready keeps through opened =
    moments_further log.file (IsEitherLog bodies body) (Some old) (Some between) new
    (record_through_moments log (Some old) (Some between) bodies body bytes sound ready keeps through)
    (gate_through_moments log.file (end_of log) bodies body 1 (Some between) new sound_between ready.end
    (record_through_left log (Some old) (Some between) bodies body bytes ready through) opened)

-- after a put each image is the records and the new one
pub left_put : (log : RecordLog) (old between new : Option Told) (bodies : List (List ℕ)) (body bytes : List ℕ)
    → TellsSound between → IsReady log old bodies body bytes → IsWrittenThrough log.file (end_of log + 1) bytes old between
    → IsWrittenThrough log.file (end_of log) (1 ∷ []) between new → EachLeft log.file (SpellsThese (bodies ++ body ∷ [])) new
left_put log None None new bodies body bytes sound_between ready through opened =
    left_through log.file (end_of log) (1 ∷ []) (SpellsThese (bodies ++ body ∷ [])) None new tt opened
left_put log None (Some between) new bodies body bytes sound_between ready through opened = absurd through
left_put log (Some old) None new bodies body bytes sound_between ready through opened = absurd through
left_put log (Some old) (Some between) new bodies body bytes sound_between ready through opened =
    left_through log.file (end_of log) (1 ∷ []) (SpellsThese (bodies ++ body ∷ [])) (Some between) new
    (gate_takes_in log.file (end_of log) bodies body (Some between) sound_between ready.end
    (record_through_left log (Some old) (Some between) bodies body bytes ready through)) opened

-- a log that has the sizes of what each image spells
pub has_from_left : (log : RecordLog) (told : Option Told) (bodies : List (List ℕ)) → TellsSound told → log.extent.stage ≡ Settled
    → log.extent.sizes ≡ map length bodies → EachLeft log.file (SpellsThese bodies) told → HasRecords log told bodies
has_from_left log None bodies sound settled sizes left = tt
has_from_left log (Some told) bodies sound settled sizes left =
    record { settled = settled; spelled = left (told.now log.file).content (sound log.file).content; sizes = sizes }

pub has_put : (log : RecordLog) (old between new : Option Told) (bodies : List (List ℕ)) (body bytes : List ℕ) (size : ℕ)
    → TellsSound between → TellsSound new → size ≡ length body → IsReady log old bodies body bytes → IsWrittenThrough log.file (end_of log + 1) bytes old between
    → IsWrittenThrough log.file (end_of log) (1 ∷ []) between new → HasRecords (with_record (with_stage log (Opening size))) new (bodies ++ body ∷ [])
has_put log None None None bodies body bytes size sound_between sound_new is ready through opened = tt
has_put log None None (Some new) bodies body bytes size sound_between sound_new is ready through opened = absurd opened
has_put log None (Some between) new bodies body bytes size sound_between sound_new is ready through opened = absurd through
has_put log (Some old) None new bodies body bytes size sound_between sound_new is ready through opened = absurd through
has_put log (Some old) (Some between) new bodies body bytes size sound_between sound_new is ready through opened =
    has_from_left (with_record (with_stage log (Opening size))) new (bodies ++ body ∷ []) sound_new refl (sizes-more log.extent.sizes bodies body size ready.sizes is)
    (left_put log (Some old) (Some between) new bodies body bytes sound_between ready through opened)

-- a log with these records is ready for one more
pub ready_from : (log : RecordLog) (told : Option Told) (bodies : List (List ℕ)) (body bytes : List ℕ) → HasRecords log told bodies → length body < 2 ^ 32
    → bytes ≡ length_bytes (length body) ++ body ++ 0 ∷ [] → IsReady log told bodies body bytes
ready_from log None bodies body bytes has short are = tt
ready_from log (Some told) bodies body bytes has short are =
    record { short = short; are = are; sizes = has.sizes; end = end_from log.extent.sizes bodies has.sizes; spelled = has.spelled }
