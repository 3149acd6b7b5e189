-- For the layers above: what the calls of a log do to its items, each spelled as the body of a record.
use Rattle.std.proofs.Common.{◌≡◌, ℕ, List, [], ◌∷◌, ◌++◌, map, Bool, true, false, cond, Option, Some, None, option_map, Result, Ok, Err, MatchResult, refl, sym, ◌∙◌, ap, subst, inl, inr}
use Rattle.std.proofs.lemmas.List.{map-append}
use Rattle.disk_core.specs.Moments.{Told}
use Rattle.record_log.specs.declared.fault.LogFault.{LogFault}
use Rattle.record_log.specs.declared.fault.LogFault.TheVariants.{NoMemory, Failed, NeedsMend, Full, BadRecord}
use Rattle.record_log.specs.declared.log.RecordLog.{RecordLog}
use Rattle.record_log.specs.Devices.{MomentsHave}
use Rattle.record_log.specs.Items.{with_one, Decides, IsMidway, Carries, IsPut, CarriesItems, LogsSome, LogsItems, IsPutOf, IsMendOf}
use Rattle.record_log.specs.Records.{IsLog}
use Rattle.record_log.proofs.Images.{keeps_logs, undecided_logs}
use Rattle.record_log.proofs.Moving.{EachLeft, moments_weaker, moments_further}
use Rattle.record_log.proofs.Carrying.{either_decides}

-- ---- one more

pub with_one-map : {A B : Type 0} (f : A → B) (items : List A) (waiting : Option A) → map f (with_one items waiting) ≡ with_one (map f items) (option_map f waiting)
with_one-map f items None = refl
with_one-map f items (Some item) = map-append f items (item ∷ [])

-- a mend decides
pub decides : {A : Type 0} (items : List A) (waiting : Option A) (is_in : Bool) → Decides items waiting (cond is_in (with_one items waiting) items)
decides items waiting true = inr refl
decides items waiting false = inl refl

-- what is decided, with nothing begun, is midway
pub midway_first : {A : Type 0} (items : List A) (waiting coming : Option A) (found : List A) → Decides items waiting found → IsMidway items waiting coming found
midway_first items waiting coming found first = record { decided = found; first = first; second = inl refl }

pub midway_second : {A : Type 0} (items : List A) (waiting coming : Option A) (decided found : List A) → Decides items waiting decided → Decides decided coming found
    → IsMidway items waiting coming found
midway_second items waiting coming decided found first second = record { decided = decided; first = first; second = second }

-- ---- calls

pub put_items : {A T : Type 0} (bytes_of : A → List ℕ) (log : RecordLog) (told : Option Told) (items : List A) (item : A) (result : Result T LogFault)
    → IsPut log told (map bytes_of items) (bytes_of item) result → IsPutOf bytes_of log told items item result
put_items bytes_of log told items item (Ok count) put =
    subst (λ (bodies : List (List ℕ)). Carries log told bodies None) (sym (map-append bytes_of items (item ∷ []))) put
put_items bytes_of log told items item (Err Failed) put = put
put_items bytes_of log told items item (Err NoMemory) put = put
put_items bytes_of log told items item (Err NeedsMend) put = put
put_items bytes_of log told items item (Err Full) put = put
put_items bytes_of log told items item (Err (BadRecord at)) put = put

mended : {A : Type 0} (bytes_of : A → List ℕ) (log : RecordLog) (told : Option Told) (items : List A) (waiting : Option A) (is_in : Bool)
    → Carries log told (cond is_in (with_one (map bytes_of items) (option_map bytes_of waiting)) (map bytes_of items)) None
    → CarriesItems bytes_of log told (cond is_in (with_one items waiting) items) None
mended bytes_of log told items waiting true mend = subst (λ (bodies : List (List ℕ)). Carries log told bodies None) (sym (with_one-map bytes_of items waiting)) mend
mended bytes_of log told items waiting false mend = mend

pub mend_items : {A E : Type 0} (bytes_of : A → List ℕ) (log : RecordLog) (told : Option Told) (items : List A) (waiting : Option A) (result : Result Bool E)
    → MatchResult result (λ is_in. Carries log told (cond is_in (with_one (map bytes_of items) (option_map bytes_of waiting)) (map bytes_of items)) None)
    (λ _. Carries log told (map bytes_of items) (option_map bytes_of waiting)) → IsMendOf bytes_of log told items waiting result
mend_items bytes_of log told items waiting (Ok is_in) mend = mended bytes_of log told items waiting is_in mend
mend_items bytes_of log told items waiting (Err fault) mend = mend

-- ---- what is left

pub logs_items : {A : Type 0} (bytes_of : A → List ℕ) (items : List A) (waiting : Option A) (image : List ℕ)
    → LogsSome (Decides (map bytes_of items) (option_map bytes_of waiting)) image → LogsItems bytes_of (Decides items waiting) image
logs_items bytes_of items waiting image (bodies, inl same, log) = (items, inl refl, subst (IsLog image) same log)
logs_items bytes_of items waiting image (bodies, inr same, log) =
    (with_one items waiting, inr refl, subst (IsLog image) (same ∙ sym (with_one-map bytes_of items waiting)) log)

-- at each moment of a put or a mend
pub moments_items : {A : Type 0} (bytes_of : A → List ℕ) (items : List A) (waiting : Option A) (file : ℕ) (old new : Option Told)
    → MomentsHave file (LogsSome (Decides (map bytes_of items) (option_map bytes_of waiting))) old new → MomentsHave file (LogsItems bytes_of (Decides items waiting)) old new
moments_items bytes_of items waiting file old new goes =
    moments_weaker file (LogsSome (Decides (map bytes_of items) (option_map bytes_of waiting))) (LogsItems bytes_of (Decides items waiting)) (logs_items bytes_of items waiting) old new goes

carried_some : (log : RecordLog) (told : Option Told) (bodies : List (List ℕ)) (waiting : Option (List ℕ)) → Carries log told bodies waiting
    → EachLeft log.file (LogsSome (Decides bodies waiting)) told
carried_some log None bodies waiting carried = absurd carried
carried_some log (Some told) bodies None carried = λ image is_image. (bodies, inl refl, keeps_logs log told bodies carried.keeps image is_image)
carried_some log (Some told) bodies (Some body) carried = λ image is_image. either_decides bodies body image (undecided_logs log told bodies body carried image is_image)

left_items : {A : Type 0} (bytes_of : A → List ℕ) (items : List A) (waiting : Option A) (file : ℕ) (told : Option Told)
    → EachLeft file (LogsSome (Decides (map bytes_of items) (option_map bytes_of waiting))) told → EachLeft file (LogsItems bytes_of (Decides items waiting)) told
left_items bytes_of items waiting file None left = tt
left_items bytes_of items waiting file (Some told) left = λ image is_image. logs_items bytes_of items waiting image (left image is_image)

-- between two calls
pub carried_items : {A : Type 0} (bytes_of : A → List ℕ) (log : RecordLog) (told : Option Told) (items : List A) (waiting : Option A)
    → CarriesItems bytes_of log told items waiting → EachLeft log.file (LogsItems bytes_of (Decides items waiting)) told
carried_items bytes_of log told items waiting carried =
    left_items bytes_of items waiting log.file told (carried_some log told (map bytes_of items) (option_map bytes_of waiting) carried)

-- a mend, and then a put
first_midway : {A : Type 0} (bytes_of : A → List ℕ) (items : List A) (waiting coming : Option A) (image : List ℕ)
    → LogsItems bytes_of (Decides items waiting) image → LogsItems bytes_of (IsMidway items waiting coming) image
first_midway bytes_of items waiting coming image (found, first, log) = (found, midway_first items waiting coming found first, log)

second_midway : {A : Type 0} (bytes_of : A → List ℕ) (items : List A) (waiting coming : Option A) (decided : List A) → Decides items waiting decided → (image : List ℕ)
    → LogsItems bytes_of (Decides decided coming) image → LogsItems bytes_of (IsMidway items waiting coming) image
second_midway bytes_of items waiting coming decided first image (found, second, log) = (found, midway_second items waiting coming decided found first second, log)

pub moments_midway : {A : Type 0} (bytes_of : A → List ℕ) (items : List A) (waiting coming : Option A) (decided : List A) (file : ℕ) (old between new : Option Told)
    → Decides items waiting decided → MomentsHave file (LogsItems bytes_of (Decides items waiting)) old between
    → MomentsHave file (LogsItems bytes_of (Decides decided coming)) between new → MomentsHave file (LogsItems bytes_of (IsMidway items waiting coming)) old new
moments_midway bytes_of items waiting coming decided file old between new first mend put =
    moments_further file (LogsItems bytes_of (IsMidway items waiting coming)) old between new
    (moments_weaker file (LogsItems bytes_of (Decides items waiting)) (LogsItems bytes_of (IsMidway items waiting coming)) (first_midway bytes_of items waiting coming) old between mend)
    (moments_weaker file (LogsItems bytes_of (Decides decided coming)) (LogsItems bytes_of (IsMidway items waiting coming)) (second_midway bytes_of items waiting coming decided first) between new put)
