-- What the contracts see of the journals of a service, over any device.
use Rattle.std.specs.Prelude.{◌≡◌, ◌≢◌, ℕ, ◌+◌, ◌-◌, ◌<◌, ◌^◌, min, List, [], ◌∷◌, ◌++◌, map, take, drop, Bool, true, false, not, ◌==◌, if◌then◌else◌, Some, slice_get}
use Rattle.std.specs.List.{filter}
use Rattle.record_log.specs.declared.log.RecordLog.{RecordLog}
use Rattle.record_log.specs.Items.{with_one}
use Rattle.record_log.specs.Logs.{sizes_of, undecided_of, needs_mend}
use Rattle.body_journal.specs.declared.fault.JournalFault.{JournalFault}
use Rattle.body_journal.specs.declared.fault.JournalFault.TheVariants.{NoMemory, DiskFault, Full}
use Rattle.body_journal.specs.declared.held.Held.{Held}
use Rattle.body_journal.specs.declared.journal.BodyJournal.{BodyJournal}
use Rattle.body_journal.specs.Groups.{group_size, IsFullest}
use Rattle.body_journal.specs.Held.{Queued, bytes_of, queued, is_queued, is_left, is_left_other, others_in, HasStored, HasMember}

-- its service
abbrev pub home_of : BodyJournal → ℕ
home_of room = room.home

-- the log of its last journal, and how many journals there are
abbrev pub log_of : BodyJournal → RecordLog
log_of room = room.log

abbrev pub journals_of : BodyJournal → ℕ
journals_of room = room.journals

-- how many bodies the records have, without the group that is undecided
abbrev pub stored_of : BodyJournal → ℕ
stored_of room = room.tally.stored

-- how many bodies were queued
abbrev pub serials_of : BodyJournal → ℕ
serials_of room = room.serials

-- the bodies that wait, in order; a group that is undecided is among them
abbrev pub queue_of : BodyJournal → List Queued
queue_of room = map queued (filter (λ (held : Held). is_queued held.stage) room.held.items)

-- the bodies that wait and are members of no group that is undecided, but for the one of this serial
abbrev pub others_of : BodyJournal → ℕ → List (List ℕ)
others_of room serial = others_in serial room.held.items

-- a queue without the body of this serial
abbrev pub queue_without : ℕ → List Queued → List Queued
queue_without serial queue = filter (λ (one : Queued). not (one.serial == serial)) queue

-- the body with this serial and these bytes is stored behind so many others
abbrev pub HasBody : BodyJournal → ℕ → List ℕ → ℕ → Type 0
HasBody room serial body before = HasStored room.held.items serial body before

-- the body with this serial and these bytes is a member of the group that is undecided, where so many stand before it
abbrev pub HasMemberBody : BodyJournal → ℕ → List ℕ → ℕ → Type 0
HasMemberBody room serial body place = HasMember room.held.items serial body place

-- the number of a body that stands behind so many others
abbrev pub number_behind : ℕ → ℕ
number_behind before = min (before + 1) (2 ^ 64 - 1)

-- ---- what a mend leaves that took the undecided group in, or left it out

abbrev pub queue_after : BodyJournal → Bool → List Queued
queue_after room is_in = map queued (filter (λ (held : Held). is_left is_in held.stage) room.held.items)

-- those that wait, but for the one of this serial
abbrev pub others_after : BodyJournal → Bool → ℕ → List (List ℕ)
others_after room is_in serial = map bytes_of (filter (is_left_other is_in serial) room.held.items)

-- how many bodies the records have, and the sizes of the records
abbrev pub stored_after : BodyJournal → Bool → ℕ
stored_after room is_in = if is_in then room.tally.stored + room.tally.grouped else room.tally.stored

abbrev pub sizes_after : BodyJournal → Bool → List ℕ
sizes_after room is_in = if is_in then with_one (sizes_of room.log) (undecided_of room.log) else sizes_of room.log

-- The group was taken in: its members are stored, each behind those before it. The body of one serial may have gone.
abbrev pub AreTakenIn : BodyJournal → BodyJournal → ℕ → Type 0
AreTakenIn old new serial = (other : ℕ) (bytes : List ℕ) (place : ℕ) → other ≢ serial → HasMemberBody old other bytes place
    → HasBody new other bytes (min (old.tally.stored + place) (2 ^ 64 - 1))

-- ---- what a flush has done. Before all else a mend took the undecided group in or left it out; where nothing is undecided it leaves all as it is.

-- It has put one record more, that of the body and of as many others as fit, and it is in. All these have left the queue.
pub record IsFlushed (old new : BodyJournal) (serial : ℕ) (body : List ℕ) (number : ℕ) : Type 0 where
  pub is_in : Bool
  pub mended : needs_mend old.log ≡ false → is_in ≡ false
  pub taken : is_in ≡ true → AreTakenIn old new serial
  pub others : ℕ
  pub fullest : IsFullest body (others_after old is_in serial) others
  pub number_is : number ≡ stored_after old is_in + 1
  pub stored : new.tally.stored ≡ stored_after old is_in + (others + 1)
  pub sizes : sizes_of new.log ≡ sizes_after old is_in ++ group_size (body ∷ take others (others_after old is_in serial)) ∷ []
  pub settled : needs_mend new.log ≡ false
  pub queue : queue_of new ≡ drop others (queue_without serial (queue_after old is_in))
  -- the others stand behind it, in order, and nobody has asked for them yet
  pub members : (place : ℕ) (one : Queued) → place < others → slice_get (queue_without serial (queue_after old is_in)) place ≡ Some one
      → HasBody new one.serial one.bytes (stored_after old is_in + (place + 1))

-- It has found the body stored, and no more is held of it. All else is as it was.
pub record IsAnswered (old new : BodyJournal) (serial : ℕ) : Type 0 where
  pub log : new.log ≡ old.log
  pub stored : new.tally.stored ≡ old.tally.stored
  pub queue : queue_of new ≡ queue_without serial (queue_of old)

-- what a fault leaves of a queue: a body that is refused has left it
abbrev pub queue_left : JournalFault → ℕ → List Queued → List Queued
queue_left NoMemory serial queue = queue
queue_left (DiskFault disk count) serial queue = queue_without serial queue
queue_left (Full disk) serial queue = queue_without serial queue

-- it was refused
pub record IsGivenUp (old new : BodyJournal) (serial : ℕ) (fault : JournalFault) : Type 0 where
  pub is_in : Bool
  pub mended : needs_mend old.log ≡ false → is_in ≡ false
  pub taken : is_in ≡ true → AreTakenIn old new serial
  pub queue : queue_of new ≡ queue_left fault serial (queue_after old is_in)
