-- What a mend decides of a put that failed.
use Rattle.std.proofs.Common.{◌≡◌, ℕ, List, [], ◌∷◌, ◌++◌, length, map, option_to_list, get_or, true, Option, Some, None, refl, sym, ◌∙◌, ap, subst, inr}
use Rattle.disk_core.specs.Disk.{IsSynced, TellsSound}
use Rattle.disk_core.specs.Moments.{Told}
use Rattle.record_log.specs.declared.log.RecordLog.{RecordLog}
use Rattle.record_log.specs.declared.extent.Stage.{Stage}
use Rattle.record_log.specs.declared.extent.Stage.TheVariants.{Settled, Begun, Opening}
use Rattle.record_log.specs.Gates.{IsOpenAt}
use Rattle.record_log.specs.Logs.{end_of, HasRecords, KeepsRecords, IsUndecided, IsLeft, IsEitherLog}
use Rattle.record_log.specs.Devices.{MomentsHave}
use Rattle.record_log.specs.Records.{Spells, size_of}
use Rattle.record_log.specs.Sizes.{undecided_size}
use Rattle.record_log.specs.Steps.{IsClosed, IsPerhapsClosed, with_stage, with_record}
use Rattle.record_log.proofs.Extents.{end_from, sizes-more}
use Rattle.record_log.proofs.Held.{IsHeld, last_gate, held_from, held_open, held_gate}
use Rattle.record_log.proofs.Moving.{EachLeft, ContentHas, Nothing, moments_same, moments_synced, left_synced, left_through, others_failed, others_through}
use Rattle.record_log.proofs.Putting.{SpellsThese, gate_leaves_out, gate_failed_moments, gate_failed_left, gate_through_moments, has_from_left, keeps_from_left}

-- ---- the gate is open

open_spells : (stage : Stage) (bodies : List (List ℕ)) (body content : List ℕ) → IsLeft stage bodies body content → get_or content (size_of bodies) 0 ≡ 1
    → Spells content (bodies ++ body ∷ [])
open_spells Settled bodies body content left opened = absurd left
open_spells (Begun size) bodies body content left opened = absurd (last_gate content bodies left opened)
open_spells (Opening size) bodies body content left opened =
    let held : IsHeld content bodies body = held_from content bodies body left in
    held_open content bodies body held (sym (held_gate content bodies body held) ∙ opened)

-- then the record is in
open_has : (log : RecordLog) (told : Option Told) (bodies : List (List ℕ)) (body : List ℕ) → TellsSound told → IsUndecided log told bodies body
    → IsOpenAt told log.file (end_of log) true → ContentHas log.file (SpellsThese (bodies ++ body ∷ [])) told
open_has log None bodies body sound undecided opened = tt
open_has log (Some told) bodies body sound undecided opened =
    let content : List ℕ = (told.now log.file).content in
    open_spells log.extent.stage bodies body content (undecided.left content (sound log.file).content)
    (ap (λ (n : ℕ). get_or content n 0) (sym (end_from log.extent.sizes bodies undecided.sizes)) ∙ opened.0 refl)

content_either : (file : ℕ) (bodies : List (List ℕ)) (body : List ℕ) (told : Option Told) → ContentHas file (SpellsThese (bodies ++ body ∷ [])) told
    → ContentHas file (IsEitherLog bodies body) told
content_either file bodies body None has = tt
content_either file bodies body (Some told) has = inr (inr has)

pub moments_in : (log : RecordLog) (old new : Option Told) (bodies : List (List ℕ)) (body : List ℕ) → TellsSound old → IsUndecided log old bodies body
    → IsOpenAt old log.file (end_of log) true → IsSynced log.file old new → MomentsHave log.file (IsEitherLog bodies body) old new
moments_in log old new bodies body sound undecided opened synced =
    moments_synced log.file (IsEitherLog bodies body) old new (content_either log.file bodies body old (open_has log old bodies body sound undecided opened)) synced

left_in : (log : RecordLog) (old new : Option Told) (bodies : List (List ℕ)) (body : List ℕ) → TellsSound old → IsUndecided log old bodies body
    → IsOpenAt old log.file (end_of log) true → IsSynced log.file old new → EachLeft log.file (SpellsThese (bodies ++ body ∷ [])) new
left_in log old new bodies body sound undecided opened synced =
    left_synced log.file (SpellsThese (bodies ++ body ∷ [])) old new (open_has log old bodies body sound undecided opened) synced

pub keeps_in : (log : RecordLog) (old new : Option Told) (bodies : List (List ℕ)) (body : List ℕ) → TellsSound old → IsUndecided log old bodies body
    → IsOpenAt old log.file (end_of log) true → IsSynced log.file old new → KeepsRecords (with_record log) new (bodies ++ body ∷ [])
keeps_in log old new bodies body sound undecided opened synced =
    keeps_from_left (with_record log) new (bodies ++ body ∷ []) (left_in log old new bodies body sound undecided opened synced)

-- the sizes with that of the undecided record
sizes_in : (stage : Stage) (sizes : List ℕ) (bodies : List (List ℕ)) (body : List ℕ) → undecided_size stage ≡ Some (length body) → sizes ≡ map length bodies
    → sizes ++ option_to_list (undecided_size stage) ≡ map length (bodies ++ body ∷ [])
sizes_in stage sizes bodies body size are = ap (λ (waiting : Option ℕ). sizes ++ option_to_list waiting) size ∙ sizes-more sizes bodies body (length body) are refl

pub has_in : (log : RecordLog) (old new : Option Told) (bodies : List (List ℕ)) (body : List ℕ) → TellsSound old → TellsSound new
    → IsUndecided log old bodies body → IsOpenAt old log.file (end_of log) true → IsSynced log.file old new
    → HasRecords (with_record log) new (bodies ++ body ∷ [])
has_in log None None bodies body sound sound_new undecided opened synced = tt
has_in log None (Some new) bodies body sound sound_new undecided opened synced = absurd synced
has_in log (Some old) new bodies body sound sound_new undecided opened synced =
    has_from_left (with_record log) new (bodies ++ body ∷ []) sound_new refl (sizes_in log.extent.stage log.extent.sizes bodies body undecided.size undecided.sizes)
    (left_in log (Some old) new bodies body sound undecided opened synced)

-- ---- the gate is not open

closed_none : (stage : Stage) (file at : ℕ) (new : Option Told) → IsClosed stage file at None new → new ≡ None
closed_none Settled file at new closed = closed
closed_none (Begun size) file at new closed = closed
closed_none (Opening size) file at None closed = refl
closed_none (Opening size) file at (Some new) closed = absurd closed

perhaps_none : (stage : Stage) (file at : ℕ) (new : Option Told) → IsPerhapsClosed stage file at None new → new ≡ None
perhaps_none Settled file at new failed = absurd failed
perhaps_none (Begun size) file at new failed = absurd failed
perhaps_none (Opening size) file at None failed = refl
perhaps_none (Opening size) file at (Some new) failed = absurd failed

pub others_closed : (stage : Stage) (file at : ℕ) (old new : Option Told) → IsClosed stage file at old new → MomentsHave file Nothing old new
others_closed Settled file at old new closed = moments_same file Nothing old new closed
others_closed (Begun size) file at old new closed = moments_same file Nothing old new closed
others_closed (Opening size) file at old new closed = others_through file at (0 ∷ []) old new closed

pub others_perhaps_closed : (stage : Stage) (file at : ℕ) (old new : Option Told) → IsPerhapsClosed stage file at old new → MomentsHave file Nothing old new
others_perhaps_closed Settled file at old new failed = absurd failed
others_perhaps_closed (Begun size) file at old new failed = absurd failed
others_perhaps_closed (Opening size) file at old new failed = others_failed file at 1 old new failed

closed_moments : (stage : Stage) (file at : ℕ) (bodies : List (List ℕ)) (body : List ℕ) (old new : Option Told) → TellsSound old → at ≡ size_of bodies
    → EachLeft file (IsLeft stage bodies body) old → IsClosed stage file at old new → MomentsHave file (IsEitherLog bodies body) old new
closed_moments Settled file at bodies body old new sound place left closed = moments_same file (IsEitherLog bodies body) old new closed
closed_moments (Begun size) file at bodies body old new sound place left closed = moments_same file (IsEitherLog bodies body) old new closed
closed_moments (Opening size) file at bodies body old new sound place left closed = gate_through_moments file at bodies body 0 old new sound place left closed

nothing_left : (file : ℕ) (bodies : List (List ℕ)) (body : List ℕ) (told : Option Told) → EachLeft file (IsLeft Settled bodies body) told
    → EachLeft file (SpellsThese bodies) told
nothing_left file bodies body None left = tt
nothing_left file bodies body (Some told) left = λ image is_image. absurd (left image is_image)

closed_left : (stage : Stage) (file at : ℕ) (bodies : List (List ℕ)) (body : List ℕ) (old new : Option Told) → TellsSound old → at ≡ size_of bodies
    → EachLeft file (IsLeft stage bodies body) old → IsClosed stage file at old new → EachLeft file (SpellsThese bodies) new
closed_left Settled file at bodies body old new sound place left closed = subst (EachLeft file (SpellsThese bodies)) (sym closed) (nothing_left file bodies body old left)
closed_left (Begun size) file at bodies body old new sound place left closed = subst (EachLeft file (SpellsThese bodies)) (sym closed) left
closed_left (Opening size) file at bodies body old new sound place left closed =
    left_through file at (0 ∷ []) (SpellsThese bodies) old new (gate_leaves_out file at bodies body old sound place left) closed

pub moments_out : (log : RecordLog) (old new : Option Told) (bodies : List (List ℕ)) (body : List ℕ) → TellsSound old → IsUndecided log old bodies body
    → IsClosed log.extent.stage log.file (end_of log) old new → MomentsHave log.file (IsEitherLog bodies body) old new
moments_out log None new bodies body sound undecided closed =
    moments_same log.file (IsEitherLog bodies body) None new (closed_none log.extent.stage log.file (end_of log) new closed)
moments_out log (Some old) new bodies body sound undecided closed =
    closed_moments log.extent.stage log.file (end_of log) bodies body (Some old) new sound (end_from log.extent.sizes bodies undecided.sizes) undecided.left closed

pub has_out : (log : RecordLog) (old new : Option Told) (bodies : List (List ℕ)) (body : List ℕ) → TellsSound old → TellsSound new
    → IsUndecided log old bodies body → IsClosed log.extent.stage log.file (end_of log) old new → HasRecords (with_stage log Settled) new bodies
has_out log None new bodies body sound sound_new undecided closed =
    subst (λ told. HasRecords (with_stage log Settled) told bodies) (sym (closed_none log.extent.stage log.file (end_of log) new closed)) tt
has_out log (Some old) new bodies body sound sound_new undecided closed =
    has_from_left (with_stage log Settled) new bodies sound_new refl undecided.sizes
    (closed_left log.extent.stage log.file (end_of log) bodies body (Some old) new sound (end_from log.extent.sizes bodies undecided.sizes) undecided.left closed)

pub keeps_out : (log : RecordLog) (old new : Option Told) (bodies : List (List ℕ)) (body : List ℕ) → TellsSound old
    → IsUndecided log old bodies body → IsClosed log.extent.stage log.file (end_of log) old new → KeepsRecords (with_stage log Settled) new bodies
keeps_out log None new bodies body sound undecided closed =
    subst (λ told. KeepsRecords (with_stage log Settled) told bodies) (sym (closed_none log.extent.stage log.file (end_of log) new closed)) tt
keeps_out log (Some old) new bodies body sound undecided closed =
    keeps_from_left (with_stage log Settled) new bodies (closed_left log.extent.stage log.file (end_of log) bodies body (Some old) new sound (end_from log.extent.sizes bodies undecided.sizes) undecided.left closed)

-- ---- the write of the closed gate failed

perhaps_moments : (stage : Stage) (file at : ℕ) (bodies : List (List ℕ)) (body : List ℕ) (old new : Option Told) → TellsSound old → at ≡ size_of bodies
    → EachLeft file (IsLeft stage bodies body) old → IsPerhapsClosed stage file at old new → MomentsHave file (IsEitherLog bodies body) old new
perhaps_moments Settled file at bodies body old new sound place left failed = absurd failed
perhaps_moments (Begun size) file at bodies body old new sound place left failed = absurd failed
perhaps_moments (Opening size) file at bodies body old new sound place left failed = gate_failed_moments file at bodies body old new sound place left failed

perhaps_left : (stage : Stage) (file at : ℕ) (bodies : List (List ℕ)) (body : List ℕ) (old new : Option Told) → TellsSound old → at ≡ size_of bodies
    → EachLeft file (IsLeft stage bodies body) old → IsPerhapsClosed stage file at old new → EachLeft file (IsLeft stage bodies body) new
perhaps_left Settled file at bodies body old new sound place left failed = absurd failed
perhaps_left (Begun size) file at bodies body old new sound place left failed = absurd failed
perhaps_left (Opening size) file at bodies body old new sound place left failed = gate_failed_left file at bodies body old new sound place left failed

pub moments_again : (log : RecordLog) (old new : Option Told) (bodies : List (List ℕ)) (body : List ℕ) → TellsSound old → IsUndecided log old bodies body
    → IsPerhapsClosed log.extent.stage log.file (end_of log) old new → MomentsHave log.file (IsEitherLog bodies body) old new
moments_again log None new bodies body sound undecided failed =
    moments_same log.file (IsEitherLog bodies body) None new (perhaps_none log.extent.stage log.file (end_of log) new failed)
moments_again log (Some old) new bodies body sound undecided failed =
    perhaps_moments log.extent.stage log.file (end_of log) bodies body (Some old) new sound (end_from log.extent.sizes bodies undecided.sizes) undecided.left failed

pub undecided_again : (log : RecordLog) (old new : Option Told) (bodies : List (List ℕ)) (body : List ℕ) → TellsSound old → IsUndecided log old bodies body
    → IsPerhapsClosed log.extent.stage log.file (end_of log) old new → IsUndecided log new bodies body
undecided_again log None new bodies body sound undecided failed =
    subst (λ told. IsUndecided log told bodies body) (sym (perhaps_none log.extent.stage log.file (end_of log) new failed)) tt
undecided_again log (Some old) None bodies body sound undecided failed = tt
undecided_again log (Some old) (Some new) bodies body sound undecided failed =
    record {
      size = undecided.size;
      sizes = undecided.sizes;
      left = perhaps_left log.extent.stage log.file (end_of log) bodies body (Some old) (Some new) sound (end_from log.extent.sizes bodies undecided.sizes) undecided.left failed;
    }
