-- What every user of a log says: the items in it, what is undecided as one more that may come, and what a crash leaves of both. An item is
-- whatever is spelled as the body of a record. Where the device doesn't tell its files, `Carries` is false.
use Rattle.std.specs.Prelude.{◌≡◌, ℕ, List, [], ◌∷◌, ◌++◌, map, Option, Some, None, option_map, Result, Ok, Err, Bool, if◌then◌else◌, ◌⊎◌}
use Rattle.disk_core.specs.Moments.{Told, EachImage}
use Rattle.record_log.specs.declared.fault.LogFault.{LogFault}
use Rattle.record_log.specs.declared.fault.LogFault.TheVariants.{NoMemory, Failed, NeedsMend, Full, BadRecord}
use Rattle.record_log.specs.declared.log.RecordLog.{RecordLog}
use Rattle.record_log.specs.Logs.{HasThese, Undecided}
use Rattle.record_log.specs.Records.{Spells, IsLog}

abbrev pub with_one : {A : Type 0} → List A → Option A → List A
with_one items None = items
with_one items (Some item) = items ++ item ∷ []

-- what waits was taken in, or left out
abbrev pub Decides : {A : Type 0} → List A → Option A → List A → Type 0
Decides items waiting found = (found ≡ items) ⊎ (found ≡ with_one items waiting)

-- what waits is decided, and then what comes is decided or not yet begun
pub record IsMidway {A : Type 0} (items : List A) (waiting coming : Option A) (found : List A) : Type 0 where
  pub decided : List A
  pub first : Decides items waiting decided
  pub second : Decides decided coming found

-- nothing is undecided: the file reads as these bodies, and each image of it spells them
pub record IsSettledLog (log : RecordLog) (told : Told) (bodies : List (List ℕ)) : Type 0 where
  pub has : HasThese log (told.now log.file).content bodies
  pub keeps : EachImage log.file (λ image. Spells image bodies) told.now

-- the log has these bodies, and a put of what waits is undecided
abbrev pub Carries : RecordLog → Option Told → List (List ℕ) → Option (List ℕ) → Type 0
Carries log None bodies waiting = ⊥
Carries log (Some told) bodies None = IsSettledLog log told bodies
Carries log (Some told) bodies (Some body) = Undecided log told.now bodies body

-- After a put of this body it is in, or it is undecided, or all is as it was.
abbrev pub IsPut : {T : Type 0} → RecordLog → Option Told → List (List ℕ) → List ℕ → Result T LogFault → Type 0
IsPut log told bodies body (Ok count) = Carries log told (bodies ++ body ∷ []) None
IsPut log told bodies body (Err Failed) = Carries log told bodies (Some body)
IsPut log told bodies body (Err NoMemory) = Carries log told bodies None
IsPut log told bodies body (Err NeedsMend) = Carries log told bodies None
IsPut log told bodies body (Err Full) = Carries log told bodies None
IsPut log told bodies body (Err (BadRecord at)) = Carries log told bodies None

-- the same of items, each spelled as a body
abbrev pub CarriesItems : {A : Type 0} → (A → List ℕ) → RecordLog → Option Told → List A → Option A → Type 0
CarriesItems bytes_of log told items waiting = Carries log told (map bytes_of items) (option_map bytes_of waiting)

-- the image is a log of bodies that are so
abbrev pub LogsSome : (List (List ℕ) → Type 0) → List ℕ → Type 0
LogsSome Are image = (bodies : List (List ℕ)) × Are bodies × IsLog image bodies

-- the image is a log of items that are so
abbrev pub LogsItems : {A : Type 0} → (A → List ℕ) → (List A → Type 0) → List ℕ → Type 0
LogsItems bytes_of Are image = (items : List _) × Are items × IsLog image (map bytes_of items)

-- After a put of this item it is in, or it is undecided, or all is as it was.
abbrev pub IsPutOf : {A T : Type 0} → (A → List ℕ) → RecordLog → Option Told → List A → A → Result T LogFault → Type 0
IsPutOf bytes_of log told items item (Ok count) = CarriesItems bytes_of log told (items ++ item ∷ []) None
IsPutOf bytes_of log told items item (Err Failed) = CarriesItems bytes_of log told items (Some item)
IsPutOf bytes_of log told items item (Err NoMemory) = CarriesItems bytes_of log told items None
IsPutOf bytes_of log told items item (Err NeedsMend) = CarriesItems bytes_of log told items None
IsPutOf bytes_of log told items item (Err Full) = CarriesItems bytes_of log told items None
IsPutOf bytes_of log told items item (Err (BadRecord at)) = CarriesItems bytes_of log told items None

-- After a mend what waited is decided, or all is as it was.
abbrev pub IsMendOf : {A E : Type 0} → (A → List ℕ) → RecordLog → Option Told → List A → Option A → Result Bool E → Type 0
IsMendOf bytes_of log told items waiting (Ok is_in) = CarriesItems bytes_of log told (if is_in then with_one items waiting else items) None
IsMendOf bytes_of log told items waiting (Err fault) = CarriesItems bytes_of log told items waiting
