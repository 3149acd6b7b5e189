-- For the layers above: logs and other files on one device. What is said of a file outlives any change to the others.
use Rattle.std.proofs.Common.{◌≡◌, ◌≢◌, ℕ, ◌≤◌, List, Option, Some, None, refl, sym, ◌∙◌, ap, subst, inl, inr}
use Rattle.std.proofs.lemmas.Bool.{cases_eq}
use Rattle.disk_core.specs.Disk.{IsWritten, IsPerhapsWritten, IsSynced, IsRemoved, IsHalfRemoved}
use Rattle.disk_core.specs.Files.{FileState, IsImage}
use Rattle.disk_core.specs.Moments.{Told, State, EachImage, SameBut, Steps, StepsPerhaps, MomentsGoOn}
use Rattle.disk_core.proofs.Going.{goes_nowhere, goes_a_step, goes_further, goes_weaker, goes_to}
use Rattle.record_log.specs.declared.log.RecordLog.{RecordLog}
use Rattle.record_log.specs.Devices.{ReadsFile, IsStoredAs, IsFresh, MomentsHave, MomentsLeave, IsLeftAlone, EachFile, FilesLeave}
use Rattle.record_log.specs.Items.{Carries}
use Rattle.record_log.specs.Logs.{IsLeft}
use Rattle.record_log.specs.Records.{Spells}
use Rattle.record_log.proofs.Moving.{EachLeft}

-- ---- calls that leave a file alone

-- a change to another file
pub alone_from : (file other : ℕ) (P : List ℕ → Type 0) (old new : Option Told) → other ≢ file → MomentsHave file P old new → IsLeftAlone other old new
alone_from file other P None None differs goes = tt
alone_from file other P None (Some new) differs goes = absurd goes
alone_from file other P (Some old) None differs goes = absurd goes
alone_from file other P (Some old) (Some new) differs goes =
    goes_weaker (λ state. SameBut file old.now state × EachImage file P state) (λ state. state other ≡ old.now other) (λ state has. has.0 other differs) old new goes

alone_step : (file other : ℕ) (Changes : FileState → FileState → Type 0) (old new : Told) → other ≢ file → Steps file Changes old new
    → MomentsGoOn (λ state. state other ≡ old.now other) old new
alone_step file other Changes old new differs steps = goes_a_step (λ state. state other ≡ old.now other) old new steps.past (steps.others other differs)

alone_perhaps : (file other : ℕ) (Changes : FileState → FileState → Type 0) (old new : Told) → other ≢ file → StepsPerhaps file Changes old new
    → MomentsGoOn (λ state. state other ≡ old.now other) old new
alone_perhaps file other Changes old new differs (inl same) =
    subst (λ (told : Told). MomentsGoOn (λ state. state other ≡ old.now other) old told) (sym same) (goes_nowhere (λ state. state other ≡ old.now other) old)
alone_perhaps file other Changes old new differs (inr steps) = alone_step file other Changes old new differs steps

-- a call of the device for another file
pub alone_written : (file other at : ℕ) (bytes : List ℕ) (old new : Option Told) → other ≢ file → IsWritten file at bytes old new → IsLeftAlone other old new
alone_written file other at bytes None None differs done = tt
alone_written file other at bytes None (Some new) differs done = absurd done
alone_written file other at bytes (Some old) None differs done = absurd done
alone_written file other at bytes (Some old) (Some new) differs done = alone_step file other _ old new differs done

pub alone_perhaps_written : (file other at count : ℕ) (old new : Option Told) → other ≢ file → IsPerhapsWritten file at count old new → IsLeftAlone other old new
alone_perhaps_written file other at count None None differs done = tt
alone_perhaps_written file other at count None (Some new) differs done = absurd done
alone_perhaps_written file other at count (Some old) None differs done = absurd done
alone_perhaps_written file other at count (Some old) (Some new) differs done = alone_perhaps file other _ old new differs done

pub alone_synced : (file other : ℕ) (old new : Option Told) → other ≢ file → IsSynced file old new → IsLeftAlone other old new
alone_synced file other None None differs done = tt
alone_synced file other None (Some new) differs done = absurd done
alone_synced file other (Some old) None differs done = absurd done
alone_synced file other (Some old) (Some new) differs done = alone_step file other _ old new differs done

pub alone_removed : (file other : ℕ) (old new : Option Told) → other ≢ file → IsRemoved file old new → IsLeftAlone other old new
alone_removed file other None None differs done = tt
alone_removed file other None (Some new) differs done = absurd done
alone_removed file other (Some old) None differs done = absurd done
alone_removed file other (Some old) (Some new) differs done = alone_step file other _ old new differs done

pub alone_half_removed : (file other : ℕ) (old new : Option Told) → other ≢ file → IsHalfRemoved file old new → IsLeftAlone other old new
alone_half_removed file other None None differs done = tt
alone_half_removed file other None (Some new) differs done = absurd done
alone_half_removed file other (Some old) None differs done = absurd done
alone_half_removed file other (Some old) (Some new) differs done = alone_perhaps file other _ old new differs done

-- two calls, one after the other
now_alone : (file : ℕ) (old new : Told) → MomentsGoOn (λ state. state file ≡ old.now file) old new → new.now file ≡ old.now file
now_alone file old new alone = goes_to (λ state. state file ≡ old.now file) old new alone refl

pub alone_further : (file : ℕ) (old between new : Option Told) → IsLeftAlone file old between → IsLeftAlone file between new → IsLeftAlone file old new
alone_further file None None new first second = second
alone_further file None (Some between) new first second = absurd first
alone_further file (Some old) None new first second = absurd first
alone_further file (Some old) (Some between) None first second = absurd second
alone_further file (Some old) (Some between) (Some new) first second =
    goes_further (λ state. state file ≡ old.now file) old between new first
    (goes_weaker (λ state. state file ≡ between.now file) (λ state. state file ≡ old.now file) (λ state same. same ∙ now_alone file old between first) between new second)

-- ---- what is said of it

-- at each moment each image has what each image had
pub alone_leaves : (file : ℕ) (P : List ℕ → Type 0) (old new : Option Told) → IsLeftAlone file old new → EachLeft file P old → MomentsLeave file P old new
alone_leaves file P None None alone left = tt
alone_leaves file P None (Some new) alone left = absurd alone
alone_leaves file P (Some old) None alone left = absurd alone
alone_leaves file P (Some old) (Some new) alone left =
    goes_weaker (λ state. state file ≡ old.now file) (EachImage file P)
    (λ state same image is_image. left image (subst (λ (now : FileState). IsImage now image) same is_image)) old new alone

pub alone_reads : (file : ℕ) (bytes : List ℕ) (old new : Option Told) → IsLeftAlone file old new → ReadsFile old file bytes → ReadsFile new file bytes
alone_reads file bytes None new alone reads = absurd reads
alone_reads file bytes (Some old) None alone reads = absurd alone
alone_reads file bytes (Some old) (Some new) alone reads = ap (λ (state : FileState). state.content) (now_alone file old new alone) ∙ reads

pub alone_stored : (file : ℕ) (bytes : List ℕ) (old new : Option Told) → IsLeftAlone file old new → IsStoredAs old file bytes → IsStoredAs new file bytes
alone_stored file bytes None new alone stored = absurd stored
alone_stored file bytes (Some old) None alone stored = absurd alone
alone_stored file bytes (Some old) (Some new) alone stored = now_alone file old new alone ∙ stored

pub alone_fresh : (file : ℕ) (old new : Option Told) → IsLeftAlone file old new → IsFresh old file → IsFresh new file
alone_fresh file None new alone fresh = absurd fresh
alone_fresh file (Some old) None alone fresh = absurd alone
alone_fresh file (Some old) (Some new) alone fresh = subst (λ (state : FileState). state.longest ≤ 1) (sym (now_alone file old new alone)) fresh

same_images : (file : ℕ) (P : List ℕ → Type 0) (old new : State) → new file ≡ old file → EachImage file P old → EachImage file P new
same_images file P old new same each image is_image = each image (subst (λ (state : FileState). IsImage state image) same is_image)

-- a log carries what it carried
pub alone_carries : (log : RecordLog) (old new : Option Told) (bodies : List (List ℕ)) (waiting : Option (List ℕ)) → IsLeftAlone log.file old new
    → Carries log old bodies waiting → Carries log new bodies waiting
alone_carries log None new bodies waiting alone carried = absurd carried
alone_carries log (Some old) None bodies waiting alone carried = absurd alone
alone_carries log (Some old) (Some new) bodies None alone carried =
    let same : new.now log.file ≡ old.now log.file = now_alone log.file old new alone in
    record {
      has = record {
        settled = carried.has.settled;
        spelled = subst (λ (state : FileState). Spells state.content bodies) (sym same) carried.has.spelled;
        sizes = carried.has.sizes;
      };
      keeps = same_images log.file (λ image. Spells image bodies) old.now new.now same carried.keeps;
    }
alone_carries log (Some old) (Some new) bodies (Some body) alone carried =
    record {
      size = carried.size;
      sizes = carried.sizes;
      left = same_images log.file (IsLeft log.extent.stage bodies body) old.now new.now (now_alone log.file old new alone) carried.left;
    }

-- ---- all files

each_file : (file : ℕ) (Claim : ℕ → List ℕ → Type 0) (old : State) → EachFile Claim old → (state : State) → SameBut file old state × EachImage file (Claim file) state
    → EachFile Claim state
each_file file Claim old each state has other image is_image =
    elim (cases_eq other file) [
      | inl same ↦ subst (λ (n : ℕ). Claim n image) (sym same) (has.1 image (subst (λ (n : ℕ). IsImage (state n) image) same is_image))
      | inr differs ↦ each other image (subst (λ (now : FileState). IsImage now image) (has.0 other differs) is_image)
    ]

-- a call on one file keeps what is claimed of each
pub each_file_goes : (file : ℕ) (Claim : ℕ → List ℕ → Type 0) (old new : Told) → EachFile Claim old.now → MomentsHave file (Claim file) (Some old) (Some new)
    → FilesLeave Claim (Some old) (Some new)
each_file_goes file Claim old new each goes =
    goes_weaker (λ state. SameBut file old.now state × EachImage file (Claim file) state) (EachFile Claim) (each_file file Claim old.now each) old new goes
