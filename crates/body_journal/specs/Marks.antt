-- Private: how a put marks the bodies that are held.
use Rattle.std.specs.Prelude.{◌≡◌, ℕ, ◌+◌, ◌<◌, ◌^◌, List, [], ◌∷◌, ◌++◌, map, take, drop, Bool, true, false, if◌then◌else◌, Option, Some, Result, Ok, Err, slice_get, ◌-◌, min}
use Rattle.std.specs.List.{filter, AllByRecursion}
use Rattle.disk_core.specs.Moments.{Told}
use Rattle.record_log.specs.Logs.{sizes_of, needs_mend}
use Rattle.record_log.specs.declared.fault.LogFault.{LogFault}
use Rattle.record_log.specs.declared.fault.LogFault.TheVariants.{NoMemory, Failed, NeedsMend, Full, BadRecord}
use Rattle.body_journal.specs.declared.fault.JournalFault.{JournalFault}
use Rattle.body_journal.specs.declared.fault.JournalFault.TheVariants as fault
use Rattle.body_journal.specs.declared.held.Held.{Held}
use Rattle.body_journal.specs.declared.journal.BodyJournal.{BodyJournal}
use Rattle.body_journal.specs.Groups.{group_size, IsFullest}
use Rattle.body_journal.specs.Held.{Queued, queued, is_grouped, is_queued, is_kept, others_in, decided_held, marked, HasStored, HasMember}
use Rattle.body_journal.specs.Rooms.{queue_of, queue_without, queue_after, others_after, stored_after, sizes_after}
use Rattle.body_journal.specs.Stores.{Stores}

abbrev pub IsUnmarked : Held → Type 0
IsUnmarked held = is_grouped held.stage ≡ false

abbrev pub AreUnmarked : List Held → Type 0
AreUnmarked helds = AllByRecursion IsUnmarked helds

-- the record of a group is put, and its members are stored
pub record IsPut (old new : BodyJournal) (serial : ℕ) (body : List ℕ) : Type 0 where
  pub others : ℕ
  pub fullest : IsFullest body (others_in serial old.held.items) others
  pub stored : new.tally.stored ≡ old.tally.stored + (others + 1)
  pub fits : old.tally.stored + (others + 1) < 2 ^ 64
  pub sizes : sizes_of new.log ≡ sizes_of old.log ++ group_size (body ∷ take others (others_in serial old.held.items)) ∷ []
  pub settled : needs_mend new.log ≡ false
  pub held : new.held.items ≡ map (decided_held old.tally.stored true) (marked serial (others + 1) 1 old.held.items)

-- what the device stores after a put: a group more, or nothing
abbrev pub StoresPut : Option Told → BodyJournal → List (List ℕ) → List ℕ → Result ℕ LogFault → Type 0
StoresPut told room bodies body (Ok before) = (more : List (List ℕ)) × Stores told room (bodies ++ body ∷ more)
StoresPut told room bodies body (Err e) = Stores told room bodies

-- what it stores after a mend
abbrev pub StoresMend : Option Told → BodyJournal → List (List ℕ) → Result Bool LogFault → Type 0
StoresMend told room bodies (Ok is_in) = (more : List (List ℕ)) × Stores told room (bodies ++ more)
StoresMend told room bodies (Err e) = Stores told room bodies

-- what it stores after both: the body is among what is stored
abbrev pub StoresAt : Option Told → BodyJournal → List (List ℕ) → List ℕ → Result ℕ LogFault → Type 0
StoresAt told room bodies body (Ok before) = (more : List (List ℕ)) × Stores told room (bodies ++ more) × (slice_get (bodies ++ more) before ≡ Some body)
StoresAt told room bodies body (Err e) = (more : List (List ℕ)) × Stores told room (bodies ++ more)

-- the bodies that wait, in order
abbrev pub queue_in : List Held → List Queued
queue_in helds = map queued (filter (λ (held : Held). is_queued held.stage) helds)

-- the undecided group was taken in
abbrev pub AreAllTakenIn : BodyJournal → BodyJournal → Type 0
AreAllTakenIn old new = (other : ℕ) (bytes : List ℕ) (place : ℕ) → HasMember old.held.items other bytes place
    → HasStored new.held.items other bytes (min (old.tally.stored + place) (2 ^ 64 - 1))

-- a mend and a put are done; the body may be in the queue still
pub record IsStoredBy (old new : BodyJournal) (serial : ℕ) (body : List ℕ) (before : ℕ) : Type 0 where
  pub is_in : Bool
  pub mended : needs_mend old.log ≡ false → is_in ≡ false
  pub taken : is_in ≡ true → AreAllTakenIn old new
  pub others : ℕ
  pub fullest : IsFullest body (others_after old is_in serial) others
  pub before_is : before ≡ stored_after old is_in
  pub fits : before + 1 < 2 ^ 64
  pub stored : new.tally.stored ≡ stored_after old is_in + (others + 1)
  pub sizes : sizes_of new.log ≡ sizes_after old is_in ++ group_size (body ∷ take others (others_after old is_in serial)) ∷ []
  pub settled : needs_mend new.log ≡ false
  pub queue : queue_in (filter (is_kept serial) new.held.items) ≡ drop others (queue_without serial (queue_after old is_in))
  pub members : (place : ℕ) (one : Queued) → place < others → slice_get (queue_without serial (queue_after old is_in)) place ≡ Some one
      → HasStored (filter (is_kept serial) new.held.items) one.serial one.bytes (stored_after old is_in + (place + 1))

-- a fault came, and perhaps a mend before it
pub record IsLeftBy (old new : BodyJournal) : Type 0 where
  pub is_in : Bool
  pub mended : needs_mend old.log ≡ false → is_in ≡ false
  pub taken : is_in ≡ true → AreAllTakenIn old new
  pub queue : queue_of new ≡ queue_after old is_in

-- what is done with the marks once the put is done
pub record AreDecided (is_in : Bool) (stored grouped : ℕ) (helds : List Held) (new_stored new_grouped : ℕ) (new_helds : List Held) : Type 0 where
  pub stored_is : new_stored ≡ (if is_in then stored + grouped else stored)
  pub grouped_is : new_grouped ≡ 0
  pub held_is : new_helds ≡ map (decided_held stored is_in) helds

pub record AreLeft (stored grouped : ℕ) (helds : List Held) (new_stored new_grouped : ℕ) (new_helds : List Held) : Type 0 where
  pub stored_is : new_stored ≡ stored
  pub grouped_is : new_grouped ≡ grouped
  pub held_is : new_helds ≡ helds

-- it leaves a record undecided
abbrev pub is_failed : LogFault → Bool
is_failed Failed = true
is_failed NoMemory = false
is_failed NeedsMend = false
is_failed Full = false
is_failed (BadRecord at) = false

abbrev pub AreDecidedUnless : Bool → ℕ → ℕ → List Held → ℕ → ℕ → List Held → Type 0
AreDecidedUnless true stored grouped helds = AreLeft stored grouped helds
AreDecidedUnless false stored grouped helds = AreDecided false stored grouped helds

abbrev pub IsDecidedAfter : LogFault → ℕ → ℕ → List Held → ℕ → ℕ → List Held → Type 0
IsDecidedAfter fault = AreDecidedUnless (is_failed fault)

abbrev pub IsDecidedBy : Result ℕ LogFault → ℕ → ℕ → List Held → ℕ → ℕ → List Held → Type 0
IsDecidedBy (Ok x) = AreDecided true
IsDecidedBy (Err fault) = IsDecidedAfter fault

-- what a fault leaves of the bodies that are held
abbrev pub held_left : JournalFault → ℕ → List Held → List Held
held_left fault.NoMemory serial helds = helds
held_left (fault.DiskFault disk count) serial helds = filter (is_kept serial) helds
held_left (fault.Full disk) serial helds = filter (is_kept serial) helds
