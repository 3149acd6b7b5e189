-- The moments of a write, of a write that is synced, and of a sync, in the file of a log.
use Rattle.std.proofs.Common.{◌≡◌, ℕ, List, [], ◌∷◌, length, Option, Some, None, Result, Ok, Err, OnErr, sym, ◌∙◌, ap, subst, inl, inr}
use Rattle.disk_core.specs.Disk.{IsWritten, IsPerhapsWritten, IsSynced, TellsSound}
use Rattle.disk_core.specs.Files.{FileState, IsImage, IsTornFile, with_bytes, written, synced}
use Rattle.disk_core.specs.Moments.{Told, State, SameBut, EachImage, Steps, StepsPerhaps, MomentsGoOn}
use Rattle.disk_core.proofs.Going.{goes_nowhere, goes_a_step, goes_weaker, goes_in_file, same_but_further}
use Rattle.disk_core.proofs.Writing.{image_of_synced, torn_from_written}
use Rattle.record_log.specs.Devices.{MomentsHave}
use Rattle.record_log.specs.Through.{GoesThrough, IsWrittenThrough}
use Rattle.record_log.proofs.Leaving.{Leaves, torn_leaves}

-- each image of the file has P, and all other files are as they were
abbrev pub InFile : ℕ → (List ℕ → Type 0) → State → State → Type 0
InFile file P old state = SameBut file old state × EachImage file P state

goes_failed : (file at count : ℕ) (P : List ℕ → Type 0) (old new : Told) → Leaves (old.now file) at count P
    → StepsPerhaps file (IsTornFile at count) old new → MomentsGoOn (InFile file P old.now) old new
goes_failed file at count P old new leaves (inl same) = subst (λ told. MomentsGoOn (InFile file P old.now) old told) (sym same) (goes_nowhere (InFile file P old.now) old)
goes_failed file at count P old new leaves (inr steps) =
    goes_a_step (InFile file P old.now) old new steps.past (steps.others, torn_leaves (old.now file) (new.now file) at count P leaves steps.changed)

through_between : (file at : ℕ) (bytes : List ℕ) (P : List ℕ → Type 0) (old new : Told) → Leaves (old.now file) at (length bytes) P
    → (through : GoesThrough file at bytes old new) → EachImage file P through.between
through_between file at bytes P old new leaves through image is_image =
    leaves (with_bytes (old.now file).content at bytes) image (subst (λ state. IsImage state image) through.is_written is_image)

image_through : (file at : ℕ) (bytes : List ℕ) (old new : Told) (image : List ℕ) → GoesThrough file at bytes old new → IsImage (new.now file) image
    → image ≡ with_bytes (old.now file).content at bytes
image_through file at bytes old new image through is_image =
    image_of_synced (through.between file) image (subst (λ state. IsImage state image) through.is_synced is_image)
    ∙ ap (λ (state : FileState). state.content) through.is_written

each_through : (file at : ℕ) (bytes : List ℕ) (P : List ℕ → Type 0) (old new : Told) → P (with_bytes (old.now file).content at bytes)
    → GoesThrough file at bytes old new → EachImage file P new.now
each_through file at bytes P old new has through image is_image = subst P (sym (image_through file at bytes old new image through is_image)) has

goes_through : (file at : ℕ) (bytes : List ℕ) (P : List ℕ → Type 0) (old new : Told) → Leaves (old.now file) at (length bytes) P
    → P (with_bytes (old.now file).content at bytes) → GoesThrough file at bytes old new → MomentsGoOn (InFile file P old.now) old new
goes_through file at bytes P old new leaves has through =
    record {
      come = new.now ∷ through.between ∷ [];
      are = ap (λ (states : List State). new.now ∷ states) through.past;
      each = (
        (same_but_further file old.now through.between new.now through.others_between through.others, each_through file at bytes P old new has through),
        ((through.others_between, through_between file at bytes P old new leaves through), tt),
      );
    }

each_synced : (file : ℕ) (P : List ℕ → Type 0) (old new : Told) → P (old.now file).content → Steps file (λ before after. after ≡ synced before) old new
    → EachImage file P new.now
each_synced file P old new has steps image is_image =
    subst P (sym (image_of_synced (old.now file) image (subst (λ state. IsImage state image) steps.changed is_image))) has

goes_synced : (file : ℕ) (P : List ℕ → Type 0) (old new : Told) → P (old.now file).content → Steps file (λ before after. after ≡ synced before) old new
    → MomentsGoOn (InFile file P old.now) old new
goes_synced file P old new has steps = goes_a_step (InFile file P old.now) old new steps.past (steps.others, each_synced file P old new has steps)

written_told : (file at : ℕ) (bytes : List ℕ) (old new : Told) → Steps file (λ before after. after ≡ written before at bytes) old new
    → StepsPerhaps file (IsTornFile at (length bytes)) old new
written_told file at bytes old new steps =
    inr (record {
      past = steps.past;
      others = steps.others;
      changed = subst (IsTornFile at (length bytes) (old.now file)) (sym steps.changed) (torn_from_written (old.now file) at bytes);
    })

-- a write that was done is one that may have failed
pub perhaps_written : (file at : ℕ) (bytes : List ℕ) (old new : Option Told) → IsWritten file at bytes old new → IsPerhapsWritten file at (length bytes) old new
perhaps_written file at bytes None None done = tt
perhaps_written file at bytes None (Some new) done = absurd done
perhaps_written file at bytes (Some old) None done = absurd done
perhaps_written file at bytes (Some old) (Some new) done = written_told file at bytes old new done

-- after a write, a sync that fails leaves what a write that failed may leave
pub unsynced : {T E : Type 0} (result : Result T E) (file at : ℕ) (bytes : List ℕ) (old between new : Option Told) → IsWritten file at bytes old between
    → OnErr result (new ≡ between) → OnErr result (IsPerhapsWritten file at (length bytes) old new)
unsynced (Ok x) file at bytes old between new done same = tt
unsynced (Err e) file at bytes old between new done same =
    subst (IsPerhapsWritten file at (length bytes) old) (sym same) (perhaps_written file at bytes old between done)

-- ---- devices that may tell

-- each image of the file has P, where it is told
abbrev pub EachLeft : ℕ → (List ℕ → Type 0) → Option Told → Type 0
EachLeft file P None = Unit {0}
EachLeft file P (Some told) = EachImage file P told.now

-- what a write that has begun may leave of the file has P
abbrev pub LeavesOn : ℕ → ℕ → ℕ → (List ℕ → Type 0) → Option Told → Type 0
LeavesOn file at count P None = Unit {0}
LeavesOn file at count P (Some told) = Leaves (told.now file) at count P

-- what reads give of the file has P
abbrev pub ContentHas : ℕ → (List ℕ → Type 0) → Option Told → Type 0
ContentHas file P None = Unit {0}
ContentHas file P (Some told) = P (told.now file).content

pub content_has : (file : ℕ) (P : List ℕ → Type 0) (told : Option Told) → TellsSound told → EachLeft file P told → ContentHas file P told
content_has file P None sound each = tt
content_has file P (Some told) sound each = each (told.now file).content (sound file).content

pub moments_failed : (file at count : ℕ) (P : List ℕ → Type 0) (old new : Option Told) → LeavesOn file at count P old → IsPerhapsWritten file at count old new
    → MomentsHave file P old new
moments_failed file at count P None None leaves failed = tt
moments_failed file at count P None (Some new) leaves failed = absurd failed
moments_failed file at count P (Some old) None leaves failed = absurd failed
moments_failed file at count P (Some old) (Some new) leaves failed = goes_failed file at count P old new leaves failed

failed_told : (file at count : ℕ) (P : List ℕ → Type 0) (old new : Told) → Leaves (old.now file) at count P → EachImage file P old.now
    → StepsPerhaps file (IsTornFile at count) old new → EachImage file P new.now
failed_told file at count P old new leaves each (inl same) = subst (λ (told : Told). EachImage file P told.now) (sym same) each
failed_told file at count P old new leaves each (inr steps) = torn_leaves (old.now file) (new.now file) at count P leaves steps.changed

pub left_failed : (file at count : ℕ) (P : List ℕ → Type 0) (old new : Option Told) → LeavesOn file at count P old → EachLeft file P old
    → IsPerhapsWritten file at count old new → EachLeft file P new
left_failed file at count P None None leaves each failed = tt
left_failed file at count P None (Some new) leaves each failed = absurd failed
left_failed file at count P (Some old) None leaves each failed = absurd failed
left_failed file at count P (Some old) (Some new) leaves each failed = failed_told file at count P old new leaves each failed

-- what the content is with the bytes written has P
abbrev pub WrittenHas : ℕ → ℕ → List ℕ → (List ℕ → Type 0) → Option Told → Type 0
WrittenHas file at bytes P None = Unit {0}
WrittenHas file at bytes P (Some told) = P (with_bytes (told.now file).content at bytes)

pub moments_through : (file at : ℕ) (bytes : List ℕ) (P : List ℕ → Type 0) (old new : Option Told) → LeavesOn file at (length bytes) P old
    → WrittenHas file at bytes P old → IsWrittenThrough file at bytes old new → MomentsHave file P old new
moments_through file at bytes P None None leaves has through = tt
moments_through file at bytes P None (Some new) leaves has through = absurd through
moments_through file at bytes P (Some old) None leaves has through = absurd through
moments_through file at bytes P (Some old) (Some new) leaves has through = goes_through file at bytes P old new leaves has through

pub left_through : (file at : ℕ) (bytes : List ℕ) (P : List ℕ → Type 0) (old new : Option Told) → WrittenHas file at bytes P old
    → IsWrittenThrough file at bytes old new → EachLeft file P new
left_through file at bytes P None None has through = tt
left_through file at bytes P None (Some new) has through = absurd through
left_through file at bytes P (Some old) None has through = absurd through
left_through file at bytes P (Some old) (Some new) has through = each_through file at bytes P old new has through

pub moments_synced : (file : ℕ) (P : List ℕ → Type 0) (old new : Option Told) → ContentHas file P old → IsSynced file old new → MomentsHave file P old new
moments_synced file P None None has synced = tt
moments_synced file P None (Some new) has synced = absurd synced
moments_synced file P (Some old) None has synced = absurd synced
moments_synced file P (Some old) (Some new) has synced = goes_synced file P old new has synced

pub left_synced : (file : ℕ) (P : List ℕ → Type 0) (old new : Option Told) → ContentHas file P old → IsSynced file old new → EachLeft file P new
left_synced file P None None has synced = tt
left_synced file P None (Some new) has synced = absurd synced
left_synced file P (Some old) None has synced = absurd synced
left_synced file P (Some old) (Some new) has synced = each_synced file P old new has synced

-- a device that stands still
pub moments_none : (file : ℕ) (P : List ℕ → Type 0) (old : Option Told) → MomentsHave file P old old
moments_none file P None = tt
moments_none file P (Some old) = goes_nowhere (InFile file P old.now) old

pub moments_same : (file : ℕ) (P : List ℕ → Type 0) (old new : Option Told) → new ≡ old → MomentsHave file P old new
moments_same file P old new same = subst (λ told. MomentsHave file P old told) (sym same) (moments_none file P old)

-- two calls, one after the other
pub moments_further : (file : ℕ) (P : List ℕ → Type 0) (old between new : Option Told) → MomentsHave file P old between → MomentsHave file P between new
    → MomentsHave file P old new
moments_further file P None None new first second = second
moments_further file P None (Some between) new first second = absurd first
moments_further file P (Some old) None new first second = absurd first
moments_further file P (Some old) (Some between) None first second = absurd second
moments_further file P (Some old) (Some between) (Some new) first second = goes_in_file file (EachImage file P) old between new first second

pub moments_weaker : (file : ℕ) (P Q : List ℕ → Type 0) → ((image : List ℕ) → P image → Q image) → (old new : Option Told) → MomentsHave file P old new
    → MomentsHave file Q old new
moments_weaker file P Q weaker None None goes = tt
moments_weaker file P Q weaker None (Some new) goes = absurd goes
moments_weaker file P Q weaker (Some old) None goes = absurd goes
moments_weaker file P Q weaker (Some old) (Some new) goes =
    goes_weaker (InFile file P old.now) (InFile file Q old.now) (λ state has. (has.0, λ image is_image. weaker image (has.1 image is_image))) old new goes

-- whatever was written in a file, all others are as they were
abbrev pub Nothing : List ℕ → Type 0
Nothing image = Unit {0}

leaves_nothing : (file at count : ℕ) (told : Option Told) → LeavesOn file at count Nothing told
leaves_nothing file at count None = tt
leaves_nothing file at count (Some told) = λ content image is_image. tt

written_nothing : (file at : ℕ) (bytes : List ℕ) (told : Option Told) → WrittenHas file at bytes Nothing told
written_nothing file at bytes None = tt
written_nothing file at bytes (Some told) = tt

content_nothing : (file : ℕ) (told : Option Told) → ContentHas file Nothing told
content_nothing file None = tt
content_nothing file (Some told) = tt

pub others_failed : (file at count : ℕ) (old new : Option Told) → IsPerhapsWritten file at count old new → MomentsHave file Nothing old new
others_failed file at count old new failed = moments_failed file at count Nothing old new (leaves_nothing file at count old) failed

pub others_through : (file at : ℕ) (bytes : List ℕ) (old new : Option Told) → IsWrittenThrough file at bytes old new → MomentsHave file Nothing old new
others_through file at bytes old new through =
    moments_through file at bytes Nothing old new (leaves_nothing file at (length bytes) old) (written_nothing file at bytes old) through

pub others_synced : (file : ℕ) (old new : Option Told) → IsSynced file old new → MomentsHave file Nothing old new
others_synced file old new synced = moments_synced file Nothing old new (content_nothing file old) synced
